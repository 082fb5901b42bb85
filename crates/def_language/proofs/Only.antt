-- What is read as a part of a statement is its words, and nothing else.
use Rattle.std.proofs.Common.{◌≡◌, ◌≤◌, ◌⊎◌, inl, inr, Bool, true, false, List, [], ◌∷◌, ◌++◌, length, refl, sym, ap, ◌∙◌, subst, append_assoc, arith}
use Rattle.std.specs.Prelude.{Result, Ok, if◌then◌else◌}
use Rattle.std.specs.List.{AllByRecursion}
use Rattle.def_chase.specs.Values.{Datum, Number, Text, Unknown}
use Rattle.def_language.specs.declared.Wanted.{Wanted}
use Rattle.def_language.specs.Words.{Word, name, number, null, text, opens, closes, comma, colon}
use Rattle.def_language.specs.Faults.{Kind}
use Rattle.def_language.specs.Names.{Name}
use Rattle.def_language.specs.Statements.{WrittenTerm, Variable, Constant}
use Rattle.def_language.specs.Grammar.{value_word, term_word, separated, one_word}
use Rattle.def_language.specs.Parts.{name_at, open_at, colon_at, end_at, whole, outer_null, value_of, term_of, item_at, items_at}
use Rattle.def_language.specs.Sayable.{IsOuter, IsTerm}
use Rattle.def_language.proofs.Many.{Only, Items, many_only, bind_ok, SameOk, ok_is}

-- which branch was taken
pub choose : {A : Type 0} (b : Bool) (x y : Result A Kind) (z : A) → (if b then x else y) ≡ Ok z → ((b ≡ true) × (x ≡ Ok z)) ⊎ ((b ≡ false) × (y ≡ Ok z))
choose true x y z e = inl (refl, e)
choose false x y z e = inr (refl, e)

value_is : (w : Word) (d d' : Datum) → IsOuter d → w ≡ value_word d → SameOk d d' → IsOuter d' × (w ≡ value_word d')
value_is w d d' outer is e = subst (λ (x : Datum). IsOuter x × (w ≡ value_word x)) (ok_is d d' e) (outer, is)

pub value_only : (w : Word) (d : Datum) → value_of w ≡ Ok d → IsOuter d × (w ≡ value_word d)
value_only (number z) d e = value_is (number z) (Number z) d tt refl e
value_only (text t) d e = value_is (text t) (Text t) d tt refl e
value_only (null u k) d e = value_is (null u k) (Unknown (outer_null u k)) d refl refl e
value_only w d e = let f : ⊥ = cc in absurd f

term_is : (w : Word) (t t' : WrittenTerm) → IsTerm t → w ≡ term_word t → SameOk t t' → IsTerm t' × (w ≡ term_word t')
term_is w t t' good is e = subst (λ (x : WrittenTerm). IsTerm x × (w ≡ term_word x)) (ok_is t t' e) (good, is)

pub term_only : (w : Word) (t : WrittenTerm) → term_of w ≡ Ok t → IsTerm t × (w ≡ term_word t)
term_only (name n) t e = term_is (name n) (Variable n) t tt refl e
term_only (number z) t e = term_is (number z) (Constant (Number z)) t tt refl e
term_only (text s) t e = term_is (text s) (Constant (Text s)) t tt refl e
term_only w t e = let f : ⊥ = cc in absurd f

-- ---- lists in parentheses

abbrev Closes : List Word → List Word → Type 0
Closes tail rest = tail ≡ closes ∷ rest

abbrev pub One : {A : Type 0} → (Word → Result A Kind) → (A → Word) → (A → Type 0) → Type 0
One {A} item word Good = (w : Word) (x : A) → item w ≡ Ok x → Good x × (w ≡ word x)

-- an item and its sign
abbrev pub Triple : Type 0 → Type 0
Triple A = A × Bool × List Word

pub triple : {A : Type 0} (x y : Triple A) → SameOk x y → x ≡ y
triple x y e = ok_is x y e

item_only : {A : Type 0} (wanted : Wanted) (item : Word → Result A Kind) (word : A → Word) (Good : A → Type 0) → One item word Good → Only (item_at wanted item) (one_word word) Good Closes
unfolding item_at
item_only {A} wanted item word Good one ws x rest = (λ e. next ws e, λ e. last ws e) where
  next : (ws : List Word) → item_at wanted item ws ≡ Ok (x, true, rest) → Good x × (ws ≡ word x ∷ comma ∷ rest)
  next [] e = let f : ⊥ = cc in absurd f
  next (w ∷ []) e = let b = bind_ok (item w) _ (x, true, rest) e in let f : ⊥ = cc in absurd f
  next (w ∷ comma ∷ more) e =
      let b = bind_ok (item w) _ (x, true, rest) e in
      let got : Triple A = (b.0, true, more) in
      let wanted_so : Triple A = (x, true, rest) in
      let p : got ≡ wanted_so = triple got wanted_so b.2 in
      let y : b.0 ≡ x = ap (λ (t : Triple A). t.0) p in
      let r : more ≡ rest = ap (λ (t : Triple A). t.2) p in
      let good = one w b.0 b.1 in
      (subst Good y good.0, ap (λ (v : Word). v ∷ comma ∷ more) (good.1 ∙ ap word y) ∙ ap (λ (vs : List Word). word x ∷ comma ∷ vs) r)
  next (w ∷ closes ∷ more) e =
      let b = bind_ok (item w) _ (x, true, rest) e in
      let got : Triple A = (b.0, false, more) in
      let wanted_so : Triple A = (x, true, rest) in
      let f : false ≡ true = ap (λ (t : Triple A). t.1) (triple got wanted_so b.2) in
      absurd (let g : ⊥ = cc in g)
  next (w ∷ sign ∷ more) e = let b = bind_ok (item w) _ (x, true, rest) e in let f : ⊥ = cc in absurd f

  last : (ws : List Word) → item_at wanted item ws ≡ Ok (x, false, rest) → Good x × ((tail : List Word) × (ws ≡ word x ∷ tail) × Closes tail rest)
  last [] e = let f : ⊥ = cc in absurd f
  last (w ∷ []) e = let b = bind_ok (item w) _ (x, false, rest) e in let f : ⊥ = cc in absurd f
  last (w ∷ closes ∷ more) e =
      let b = bind_ok (item w) _ (x, false, rest) e in
      let got : Triple A = (b.0, false, more) in
      let wanted_so : Triple A = (x, false, rest) in
      let p : got ≡ wanted_so = triple got wanted_so b.2 in
      let y : b.0 ≡ x = ap (λ (t : Triple A). t.0) p in
      let r : more ≡ rest = ap (λ (t : Triple A). t.2) p in
      let good = one w b.0 b.1 in
      (subst Good y good.0, (closes ∷ more, ap (λ (v : Word). v ∷ closes ∷ more) (good.1 ∙ ap word y), ap (λ (vs : List Word). closes ∷ vs) r))
  last (w ∷ comma ∷ more) e =
      let b = bind_ok (item w) _ (x, false, rest) e in
      let got : Triple A = (b.0, true, more) in
      let wanted_so : Triple A = (x, false, rest) in
      let f : true ≡ false = ap (λ (t : Triple A). t.1) (triple got wanted_so b.2) in
      absurd (let g : ⊥ = cc in g)
  last (w ∷ sign ∷ more) e = let b = bind_ok (item w) _ (x, false, rest) e in let f : ⊥ = cc in absurd f

-- the list in parentheses, with what follows it
pub items_only : {A : Type 0} (wanted : Wanted) (item : Word → Result A Kind) (word : A → Word) (Good : A → Type 0) → One item word Good → (ws : List Word) (xs : List A) (rest : List Word)
    → items_at wanted item ws ≡ Ok (xs, rest) → (1 ≤ length xs) × AllByRecursion Good xs × (ws ≡ (separated (one_word word) xs ++ closes ∷ []) ++ rest)
unfolding items_at
items_only wanted item word Good one ws xs rest e =
    let l : Items (one_word word) Good Closes ws xs rest = many_only (item_at wanted item) (one_word word) Good Closes (item_only wanted item word Good one) (length ws) ws xs rest (omega arith) e in
    (l.some, l.good, l.is ∙ ap (λ (vs : List Word). separated (one_word word) xs ++ vs) l.ends ∙ sym (append_assoc (separated (one_word word) xs) (closes ∷ []) rest))

-- ---- words by themselves

pub name_only : (words : List Word) (n : Name) (rest : List Word) → name_at words ≡ Ok (n, rest) → words ≡ name n ∷ rest
unfolding name_at
name_only (name m ∷ ws) n rest e =
    let got : Name × List Word = (m, ws) in
    let is : Name × List Word = (n, rest) in
    ap (λ (p : Name × List Word). name p.0 ∷ p.1) (ok_is got is e)
name_only words n rest e = let f : ⊥ = cc in absurd f

pub open_only : (words rest : List Word) → open_at words ≡ Ok rest → words ≡ opens ∷ rest
unfolding open_at
open_only (opens ∷ ws) rest e = ap (λ (vs : List Word). opens ∷ vs) (ok_is ws rest e)
open_only words rest e = let f : ⊥ = cc in absurd f

pub colon_only : (words rest : List Word) → colon_at words ≡ Ok rest → words ≡ colon ∷ rest
unfolding colon_at
colon_only (colon ∷ ws) rest e = ap (λ (vs : List Word). colon ∷ vs) (ok_is ws rest e)
colon_only words rest e = let f : ⊥ = cc in absurd f

pub end_only : (words : List Word) (u : Unit {0}) → end_at words ≡ Ok u → words ≡ []
unfolding end_at
end_only [] u e = refl
end_only (w ∷ ws) u e = let f : ⊥ = cc in absurd f

pub whole_only : {A : Type 0} (read : Result (A × List Word) Kind) (x : A) → whole read ≡ Ok x → read ≡ Ok (x, [])
unfolding whole
whole_only {A} read x e =
    let a = bind_ok read _ x e in
    let b = bind_ok (end_at a.0.1) _ x a.2 in
    let y : a.0.0 ≡ x = ok_is a.0.0 x b.2 in
    let r : a.0.1 ≡ [] = end_only a.0.1 b.0 b.1 in
    let pair : A → List Word → Result (A × List Word) Kind = λ y r. Ok (y, r) in
    a.1 ∙ ap (λ (y : A). pair y a.0.1) y ∙ ap (λ (r : List Word). pair x r) r
