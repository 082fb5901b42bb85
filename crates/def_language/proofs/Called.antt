-- Names that differ from each other, by their places.
use Rattle.std.proofs.Common.{◌≡◌, ℕ, zero, suc, ◌+◌, ◌<◌, Bool, true, false, List, [], ◌∷◌, ◌++◌, length, refl, sym, ap, ◌∙◌, arith, append_assoc, length-append}
use Rattle.std.specs.Prelude.{map, fold, nat_eq, ◌==◌, if◌then◌else◌}
use Rattle.std.specs.List.{AllByRecursion, list_any, range_with_len}
use Rattle.std.specs.Cmp.Lexicographic.{same_text}
use Rattle.std.proofs.lemmas.Bool.{eqb-true, or_parts}
use Rattle.std.proofs.lemmas.Bool.Decides.{nat_tests}
use Rattle.std.proofs.lemmas.Cmp.{nat_list_eq_equiv}
use Rattle.std.proofs.lemmas.List.{map-append}
use Rattle.def_language.specs.Names.{Name, same_name, is_one_of, place_of, with_new, firsts}
use Rattle.def_language.specs.Printing.{name_of}
use Rattle.def_language.specs.Validity.{AreNew, AreNames}

pub same_itself : (n : Name) → same_name n n ≡ true
same_itself n = nat_list_eq_equiv.refl n

pub same_is : (m n : Name) → same_name m n ≡ true → m ≡ n
same_is m n e = same_text m n (sym e)

-- a name that is not before it stands first at its place
pub at_seam : (before : List Name) (n : Name) (rest : List Name) → is_one_of before n ≡ false → place_of (before ++ n ∷ rest) n ≡ length before
at_seam [] n rest new = rw (same_itself n) refl
at_seam (m ∷ before) n rest new =
    let parts = or_parts (same_name n m) (is_one_of before n) new in
    rw (parts.0, at_seam before n rest parts.1) (omega arith)

place_after : (before names : List Name) (v : ℕ) → AreNew before names → v < length names → place_of (before ++ names) (name_of names v) ≡ length before + v
place_after before [] v new lt = absurd (omega arith)
place_after before (n ∷ names) zero new lt = let e : length before ≡ length before + 0 = omega arith in at_seam before n names new.1 ∙ e
place_after before (n ∷ names) (suc v) new lt =
    let e : (before ++ n ∷ []) ++ names ≡ before ++ n ∷ names = append_assoc before (n ∷ []) names in
    let m : length (before ++ n ∷ []) + v ≡ length before + suc v = omega (arith, length-append before (n ∷ [])) in
    ap (λ (ns : List Name). place_of ns (name_of names v)) (sym e) ∙ place_after (before ++ n ∷ []) names v new.2 (omega arith) ∙ m

-- names that differ are found at their places
pub place_again : (names : List Name) (v : ℕ) → AreNames names → v < length names → place_of names (name_of names v) ≡ v
place_again names v all lt = let e : 0 + v ≡ v = omega arith in place_after [] names v all lt ∙ e

-- they are the same where their places are
pub same_places : (names : List Name) (v w : ℕ) → AreNames names → v < length names → w < length names → same_name (name_of names v) (name_of names w) ≡ (v == w)
same_places names v w all lt lt' = by (v == w) (same_name (name_of names v) (name_of names w)) refl refl where
  by : (b c : Bool) → (v == w) ≡ b → same_name (name_of names v) (name_of names w) ≡ c → c ≡ b
  by true true e f = refl
  by false false e f = refl
  by true false e f =
      let is : v ≡ w = eqb-true v w e in
      let yes : same_name (name_of names v) (name_of names w) ≡ true = ap (λ u. same_name (name_of names v) (name_of names u)) (sym is) ∙ same_itself (name_of names v) in
      sym f ∙ yes
  by false true e f =
      let is : v ≡ w = sym (place_again names v all lt) ∙ ap (place_of names) (same_is (name_of names v) (name_of names w) f) ∙ place_again names w all lt' in
      let yes : (v == w) ≡ true = grind (arith, nat_tests) in
      sym yes ∙ e

-- ---- numbers and their names, each once

abbrev pub Below : ℕ → List ℕ → Type 0
Below count vs = AllByRecursion (λ v. v < count) vs

-- a function from numbers to names that keeps them apart
abbrev pub Apart : ℕ → (ℕ → Name) → Type 0
Apart count f = (v w : ℕ) → v < count → w < count → same_name (f v) (f w) ≡ (v == w)

any_named : (count : ℕ) (f : ℕ → Name) (v : ℕ) (seen : List ℕ) → Apart count f → v < count → Below count seen → list_any (same_name (f v)) (map f seen) ≡ list_any (nat_eq v) seen
any_named count f v [] apart lt below = refl
any_named count f v (w ∷ seen) apart lt below = rw (apart v w lt below.0, any_named count f v seen apart lt below.1) refl

new_named : (count : ℕ) (f : ℕ → Name) (seen : List ℕ) (v : ℕ) → Apart count f → v < count → Below count seen → with_new same_name (map f seen) (f v) ≡ map f (with_new nat_eq seen v)
new_named count f seen v apart lt below = by (list_any (nat_eq v) seen) refl where
  by : (b : Bool) → list_any (nat_eq v) seen ≡ b → with_new same_name (map f seen) (f v) ≡ map f (with_new nat_eq seen v)
  by true e = rw (any_named count f v seen apart lt below, e) refl
  by false e = rw (any_named count f v seen apart lt below, e) (sym (map-append f seen (v ∷ [])))

below_push : (count : ℕ) (seen : List ℕ) (v : ℕ) → Below count seen → v < count → Below count (seen ++ v ∷ [])
below_push count [] v below lt = (lt, tt)
below_push count (w ∷ seen) v below lt = (below.0, below_push count seen v below.1 lt)

new_below : (count : ℕ) (seen : List ℕ) (v : ℕ) → Below count seen → v < count → Below count (with_new nat_eq seen v)
new_below count seen v below lt = by (list_any (nat_eq v) seen) where
  by : (b : Bool) → Below count (let vs : List ℕ = if b then seen else seen ++ v ∷ [] in vs)
  by true = below
  by false = below_push count seen v below lt

firsts_from : (count : ℕ) (f : ℕ → Name) (vs seen : List ℕ) → Apart count f → Below count vs → Below count seen → fold (with_new same_name) (map f seen) (map f vs) ≡ map f (fold (with_new nat_eq) seen vs)
firsts_from count f [] seen apart below before = refl
firsts_from count f (v ∷ vs) seen apart below before =
    ap (λ (names : List Name). fold (with_new same_name) names (map f vs)) (new_named count f seen v apart below.0 before)
    ∙ firsts_from count f vs (with_new nat_eq seen v) apart below.1 (new_below count seen v before below.0)

pub firsts_named : (count : ℕ) (f : ℕ → Name) (vs : List ℕ) → Apart count f → Below count vs → firsts same_name (map f vs) ≡ map f (firsts nat_eq vs)
firsts_named count f vs apart below = firsts_from count f vs [] apart below tt

shifted : (f : ℕ → Name) (a n : ℕ) → map f (range_with_len (a + 1) n) ≡ map (λ v. f (suc v)) (range_with_len a n)
shifted f a zero = refl
shifted f a (suc n) =
    let e : a + 1 ≡ suc a = omega arith in
    ap (λ v. f v ∷ map f (range_with_len (a + 1 + 1) n)) e ∙ ap (λ (ns : List Name). f (suc a) ∷ ns) (shifted f (a + 1) n)

-- the names by their numbers
pub all_named : (names : List Name) → map (name_of names) (range_with_len 0 (length names)) ≡ names
all_named [] = refl
all_named (n ∷ names) = ap (λ (ns : List Name). n ∷ ns) (shifted (name_of (n ∷ names)) 0 (length names) ∙ all_named names)
