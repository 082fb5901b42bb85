-- What is read as a statement is its words, and nothing else.
use Rattle.std.proofs.Common.{◌≡◌, ◌≤◌, ◌⊎◌, inl, inr, Bool, true, false, List, [], ◌∷◌, ◌++◌, length, refl, sym, ap, ◌∙◌, subst, append-nil, arith}
use Rattle.std.specs.Prelude.{Result, Ok}
use Rattle.std.specs.List.{AllByRecursion}
use Rattle.def_language.specs.declared.Wanted.TheVariants as missing
use Rattle.def_language.specs.Words.{Word, name, opens, comma, colon, arrow}
use Rattle.def_language.specs.Faults.{Kind}
use Rattle.def_language.specs.Reading.{◌>>=◌, many}
use Rattle.def_language.specs.Statements.{WrittenFact, WrittenAtom, WrittenMapping}
use Rattle.def_language.specs.Grammar.{value_word, term_word, separated, fact_words, atom_words, mapping_words}
use Rattle.def_language.specs.Parts.{name_at, open_at, colon_at, whole, value_of, term_of, items_at, fact_at, atom_at, left_sign, last_sign, left_atom, right_atom, last_fact, left_at, right_at, mapping_at, facts_at}
use Rattle.def_language.specs.Sayable.{IsOuter, IsTerm, IsWrittenFact, IsWrittenAtom, IsWrittenMapping}
use Rattle.def_language.proofs.Many.{Only, Items, many_only, bind_ok, SameOk, ok_is}
use Rattle.def_language.proofs.Only.{value_only, term_only, name_only, open_only, colon_only, whole_only, items_only, Triple, triple}

-- ---- facts and atoms

abbrev pub FactRead : List Word → WrittenFact → List Word → Type 0
FactRead ws fact rest = IsWrittenFact fact × (ws ≡ fact_words fact ++ rest)

pub fact_only : (ws : List Word) (fact : WrittenFact) (rest : List Word) → fact_at ws ≡ Ok (fact, rest) → FactRead ws fact rest
unfolding fact_at
fact_only ws fact rest e =
    let a = bind_ok (name_at ws) _ (fact, rest) e in
    let b = bind_ok (open_at a.0.1) _ (fact, rest) a.2 in
    let c = bind_ok (items_at missing.Value value_of b.0) _ (fact, rest) b.2 in
    let l = items_only missing.Value value_of value_word IsOuter value_only b.0 c.0.0 c.0.1 c.1 in
    let got : WrittenFact = record { relation = a.0.0; values = c.0.0 } in
    let read : WrittenFact × List Word = (got, c.0.1) in
    let is : WrittenFact × List Word = (fact, rest) in
    let p : read ≡ is = ok_is read is c.2 in
    let words : ws ≡ fact_words got ++ c.0.1 = name_only ws a.0.0 a.0.1 a.1 ∙ ap (λ (vs : List Word). name a.0.0 ∷ vs) (open_only a.0.1 b.0 b.1) ∙ ap (λ (vs : List Word). name a.0.0 ∷ opens ∷ vs) l.2 in
    subst (λ (x : WrittenFact × List Word). FactRead ws x.0 x.1) p ((l.0, l.1), words)

abbrev AtomRead : List Word → WrittenAtom → List Word → Type 0
AtomRead ws atom rest = IsWrittenAtom atom × (ws ≡ atom_words atom ++ rest)

atom_only : (ws : List Word) (atom : WrittenAtom) (rest : List Word) → atom_at ws ≡ Ok (atom, rest) → AtomRead ws atom rest
unfolding atom_at
atom_only ws atom rest e =
    let a = bind_ok (name_at ws) _ (atom, rest) e in
    let b = bind_ok (open_at a.0.1) _ (atom, rest) a.2 in
    let c = bind_ok (items_at missing.Term term_of b.0) _ (atom, rest) b.2 in
    let l = items_only missing.Term term_of term_word IsTerm term_only b.0 c.0.0 c.0.1 c.1 in
    let got : WrittenAtom = record { relation = a.0.0; terms = c.0.0 } in
    let read : WrittenAtom × List Word = (got, c.0.1) in
    let is : WrittenAtom × List Word = (atom, rest) in
    let p : read ≡ is = ok_is read is c.2 in
    let words : ws ≡ atom_words got ++ c.0.1 = name_only ws a.0.0 a.0.1 a.1 ∙ ap (λ (vs : List Word). name a.0.0 ∷ vs) (open_only a.0.1 b.0 b.1) ∙ ap (λ (vs : List Word). name a.0.0 ∷ opens ∷ vs) l.2 in
    subst (λ (x : WrittenAtom × List Word). AtomRead ws x.0 x.1) p ((l.0, l.1), words)

-- ---- what stands after an item

-- the sign is a comma, or what ends the list
abbrev Signed : {A : Type 0} → (List Word → List Word → Type 0) → A → List Word → Triple A → Type 0
Signed {A} Ends x after t = ((t.1 ≡ true) × (t.0 ≡ x) × (after ≡ comma ∷ t.2)) ⊎ ((t.1 ≡ false) × (t.0 ≡ x) × Ends after t.2)

signed_so : {A : Type 0} (Ends : List Word → List Word → Type 0) (x : A) (after : List Word) (got t : Triple A) → Signed Ends x after got → SameOk got t → Signed Ends x after t
signed_so {A} Ends x after got t s e = subst (λ (u : Triple A). Signed Ends x after u) (triple got t e) s

abbrev EndsLeft : List Word → List Word → Type 0
EndsLeft tail rest = tail ≡ arrow ∷ rest

abbrev EndsLine : List Word → List Word → Type 0
EndsLine tail rest = (tail ≡ []) × (rest ≡ [])

left_signed : (a : WrittenAtom) (after : List Word) (t : Triple WrittenAtom) → left_sign a after ≡ Ok t → Signed EndsLeft a after t
left_signed a (comma ∷ rest) t e = signed_so EndsLeft a (comma ∷ rest) (a, true, rest) t (inl (refl, refl, refl)) e
left_signed a (arrow ∷ rest) t e = signed_so EndsLeft a (arrow ∷ rest) (a, false, rest) t (inr (refl, refl, refl)) e
left_signed a after t e = let f : ⊥ = cc in absurd f

last_signed : {A : Type 0} (x : A) (after : List Word) (t : Triple A) → last_sign x after ≡ Ok t → Signed EndsLine x after t
last_signed x [] t e = signed_so EndsLine x [] (x, false, []) t (inr (refl, refl, (refl, refl))) e
last_signed x (comma ∷ rest) t e = signed_so EndsLine x (comma ∷ rest) (x, true, rest) t (inl (refl, refl, refl)) e
last_signed x after t e = let f : ⊥ = cc in absurd f

-- an item and its sign, from what is known of each
item_and_sign : {A : Type 0} (read : List Word → Result (A × List Word) Kind) (sign : A → List Word → Result (Triple A) Kind) (words : A → List Word) (Good : A → Type 0) (Ends : List Word → List Word → Type 0)
    → ((ws : List Word) (x : A) (rest : List Word) → read ws ≡ Ok (x, rest) → Good x × (ws ≡ words x ++ rest)) → ((x : A) (after : List Word) (t : Triple A) → sign x after ≡ Ok t → Signed Ends x after t)
    → Only (λ ws. read ws >>= (λ x. sign x.0 x.1)) words Good Ends
item_and_sign {A} read sign words Good Ends item signed ws x rest = (λ e. next e, λ e. last e) where
  found : (m : Bool) → (read ws >>= (λ x. sign x.0 x.1)) ≡ Ok (x, m, rest) → (y : A) × (after : List Word) × (Good y × (ws ≡ words y ++ after)) × Signed Ends y after (x, m, rest)
  found m e =
      let b = bind_ok (read ws) _ (x, m, rest) e in
      (b.0.0, b.0.1, item ws b.0.0 b.0.1 b.1, signed b.0.0 b.0.1 (x, m, rest) b.2)

  next_so : (y : A) (after : List Word) → Good y × (ws ≡ words y ++ after) → Signed Ends y after (x, true, rest) → Good x × (ws ≡ words x ++ comma ∷ rest)
  next_so y after good (inl s) = (subst Good (sym s.1) good.0, good.1 ∙ ap (λ (z : A). words z ++ after) (sym s.1) ∙ ap (λ (vs : List Word). words x ++ vs) s.2)
  next_so y after good (inr s) = let f : ⊥ = let g : true ≡ false = s.0 in cc in absurd f

  last_so : (y : A) (after : List Word) → Good y × (ws ≡ words y ++ after) → Signed Ends y after (x, false, rest) → Good x × ((tail : List Word) × (ws ≡ words x ++ tail) × Ends tail rest)
  last_so y after good (inl s) = let f : ⊥ = let g : false ≡ true = s.0 in cc in absurd f
  last_so y after good (inr s) = (subst Good (sym s.1) good.0, (after, good.1 ∙ ap (λ (z : A). words z ++ after) (sym s.1), s.2))

  next : (read ws >>= (λ x. sign x.0 x.1)) ≡ Ok (x, true, rest) → Good x × (ws ≡ words x ++ comma ∷ rest)
  next e = let f = found true e in next_so f.0 f.1 f.2 f.3

  last : (read ws >>= (λ x. sign x.0 x.1)) ≡ Ok (x, false, rest) → Good x × ((tail : List Word) × (ws ≡ words x ++ tail) × Ends tail rest)
  last e = let f = found false e in last_so f.0 f.1 f.2 f.3

left_atom_only : Only left_atom atom_words IsWrittenAtom EndsLeft
unfolding left_atom
left_atom_only = item_and_sign atom_at left_sign atom_words IsWrittenAtom EndsLeft atom_only left_signed

right_atom_only : Only right_atom atom_words IsWrittenAtom EndsLine
unfolding right_atom
right_atom_only = item_and_sign atom_at last_sign atom_words IsWrittenAtom EndsLine atom_only last_signed

last_fact_only : Only last_fact fact_words IsWrittenFact EndsLine
unfolding last_fact
last_fact_only = item_and_sign fact_at last_sign fact_words IsWrittenFact EndsLine fact_only last_signed

-- ---- sides

abbrev LeftRead : List Word → List WrittenAtom → List Word → Type 0
LeftRead ws left rest = AllByRecursion IsWrittenAtom left × (ws ≡ separated atom_words left ++ arrow ∷ rest)

left_only : (ws : List Word) (left : List WrittenAtom) (rest : List Word) → left_at ws ≡ Ok (left, rest) → LeftRead ws left rest
unfolding left_at
left_only (arrow ∷ more) left rest e =
    let got : List WrittenAtom × List Word = ([], more) in
    let is : List WrittenAtom × List Word = (left, rest) in
    subst (λ (x : List WrittenAtom × List Word). LeftRead (arrow ∷ more) x.0 x.1) (ok_is got is e) (tt, refl)
left_only (name n ∷ more) left rest e =
    let l : Items atom_words IsWrittenAtom EndsLeft (name n ∷ more) left rest = many_only left_atom atom_words IsWrittenAtom EndsLeft left_atom_only (length (name n ∷ more)) (name n ∷ more) left rest (omega arith) e in
    (l.good, l.is ∙ ap (λ (vs : List Word). separated atom_words left ++ vs) l.ends)
left_only ws left rest e = let f : ⊥ = cc in absurd f

abbrev RightRead : List Word → List WrittenAtom → Type 0
RightRead ws right = AllByRecursion IsWrittenAtom right × (ws ≡ separated atom_words right)

-- items to the end of the line
line_only : {A : Type 0} (one : List Word → Result (Triple A) Kind) (words : A → List Word) (Good : A → Type 0) → Only one words Good EndsLine → (ws : List Word) (xs : List A)
    → (many (length ws) one ws >>= (λ (x : List A × List Word). let r : Result (List A) Kind = Ok x.0 in r)) ≡ Ok xs → (1 ≤ length xs) × AllByRecursion Good xs × (ws ≡ separated words xs)
line_only {A} one words Good only ws xs e =
    let b = bind_ok (many (length ws) one ws) _ xs e in
    let l : Items words Good EndsLine ws b.0.0 b.0.1 = many_only one words Good EndsLine only (length ws) ws b.0.0 b.0.1 (omega arith) b.1 in
    let is : b.0.0 ≡ xs = ok_is b.0.0 xs b.2 in
    let whole_line : ws ≡ separated words b.0.0 = l.is ∙ ap (λ (vs : List Word). separated words b.0.0 ++ vs) l.ends.0 ∙ append-nil (separated words b.0.0) in
    subst (λ (ys : List A). (1 ≤ length ys) × AllByRecursion Good ys × (ws ≡ separated words ys)) is (l.some, l.good, whole_line)

right_only : (ws : List Word) (right : List WrittenAtom) → right_at ws ≡ Ok right → RightRead ws right
unfolding right_at
right_only [] right e = subst (λ (x : List WrittenAtom). RightRead [] x) (ok_is [] right e) (tt, refl)
right_only (name n ∷ more) right e = let l = line_only right_atom atom_words IsWrittenAtom right_atom_only (name n ∷ more) right e in (l.1, l.2)
right_only ws right e = let f : ⊥ = cc in absurd f

pub mapping_only : (ws : List Word) (m : WrittenMapping) → mapping_at ws ≡ Ok m → IsWrittenMapping m × (ws ≡ mapping_words m)
unfolding mapping_at
mapping_only ws m e =
    let a = bind_ok (name_at ws) _ m e in
    let b = bind_ok (colon_at a.0.1) _ m a.2 in
    let c = bind_ok (left_at b.0) _ m b.2 in
    let d = bind_ok (right_at c.0.1) _ m c.2 in
    let left = left_only b.0 c.0.0 c.0.1 c.1 in
    let right = right_only c.0.1 d.0 d.1 in
    let got : WrittenMapping = record { name = a.0.0; left = c.0.0; right = d.0 } in
    let words : ws ≡ mapping_words got =
    name_only ws a.0.0 a.0.1 a.1 ∙ ap (λ (vs : List Word). name a.0.0 ∷ vs) (colon_only a.0.1 b.0 b.1) ∙ ap (λ (vs : List Word). name a.0.0 ∷ colon ∷ vs) left.1
    ∙ ap (λ (vs : List Word). name a.0.0 ∷ colon ∷ (separated atom_words c.0.0 ++ arrow ∷ vs)) right.1 in
    subst (λ (x : WrittenMapping). IsWrittenMapping x × (ws ≡ mapping_words x)) (ok_is got m d.2) ((left.0, right.0), words)

pub facts_only : (ws : List Word) (facts : List WrittenFact) → facts_at ws ≡ Ok facts → (1 ≤ length facts) × AllByRecursion IsWrittenFact facts × (ws ≡ separated fact_words facts)
unfolding facts_at
facts_only ws facts e = line_only last_fact fact_words IsWrittenFact last_fact_only ws facts e

pub whole_fact_only : (ws : List Word) (fact : WrittenFact) → whole (fact_at ws) ≡ Ok fact → IsWrittenFact fact × (ws ≡ fact_words fact)
whole_fact_only ws fact e =
    let f = fact_only ws fact [] (whole_only (fact_at ws) fact e) in
    (f.0, f.1 ∙ append-nil (fact_words fact))
