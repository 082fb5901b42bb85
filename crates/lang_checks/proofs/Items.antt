-- Items checked one after the other, as a loop that takes a list apart checks them.
use Rattle.std.proofs.Common.{◌≡◌, ◌∙◌, List, [], ◌∷◌, ◌++◌, refl, ap}
use Rattle.std.specs.Prelude.{Result, Ok, Err}
use Rattle.std.specs.Vec.Iter.{into_iter_items, into_iter_steps}
use Rattle.std.specs.declared.vec.IntoIter.{IntoIter}
use Rattle.std.specs.Iterator.{Yields}
use Rattle.def_language.specs.Faults.{Kind}
use Rattle.def_language.specs.Reading.{◌>>=◌, each}
use Rattle.lang_checks.specs.declared.refusals.TakeRefusal.{TakeRefusal}
use Rattle.lang_checks.specs.Answers.{Refuses}
use Rattle.lang_checks.proofs.Carried.{carried}

-- one more item passes
pub passes : {A B : Type 0} (check : A → Result B Kind) (xs : List A) (ys : List B) (x : A) (y : B) → each check xs ≡ Ok ys → check x ≡ Ok y → each check (xs ++ x ∷ []) ≡ Ok (ys ++ y ∷ [])
unfolding each
passes check [] ys x y e f = let empty : [] ≡ ys = cc in rw f (ap (λ (zs : List _). let r : Result (List _) Kind = Ok (zs ++ y ∷ []) in r) empty)
passes {A} {B} check (w ∷ xs) ys x y e f = by (check w) (each check xs) refl refl e (λ zs g. passes check xs zs x y g f) where
  by : (r : Result B Kind) (t : Result (List B) Kind) → check w ≡ r → each check xs ≡ t → (r >>= (λ v. t >>= (λ vs. Ok (v ∷ vs)))) ≡ Ok ys
      → ((zs : List B) → each check xs ≡ Ok zs → each check (xs ++ x ∷ []) ≡ Ok (zs ++ y ∷ [])) → each check (w ∷ xs ++ x ∷ []) ≡ Ok (ys ++ y ∷ [])
  by (Ok v) (Ok zs) a b g ih = let same : v ∷ zs ≡ ys = cc in rw (a, ih zs b) (ap (λ (vs : List B). let r : Result (List B) Kind = Ok (vs ++ y ∷ []) in r) same)
  by (Ok v) (Err k) a b g ih = let none : ⊥ = cc in absurd none
  by (Err k) t a b g ih = let none : ⊥ = cc in absurd none

fault : {A B : Type 0} (check : A → Result B Kind) (xs : List A) (ys : List B) (x : A) (rest : List A) (k : Kind) → each check xs ≡ Ok ys → check x ≡ Err k → each check (xs ++ x ∷ rest) ≡ Err k
unfolding each
fault check [] ys x rest k e f = rw f refl
fault {A} {B} check (w ∷ xs) ys x rest k e f = by (check w) (each check xs) refl refl e (λ zs g. fault check xs zs x rest k g f) where
  by : (r : Result B Kind) (t : Result (List B) Kind) → check w ≡ r → each check xs ≡ t → (r >>= (λ v. t >>= (λ vs. Ok (v ∷ vs)))) ≡ Ok ys
      → ((zs : List B) → each check xs ≡ Ok zs → each check (xs ++ x ∷ rest) ≡ Err k) → each check (w ∷ xs ++ x ∷ rest) ≡ Err k
  by (Ok v) (Ok zs) a b g ih = rw (a, ih zs b) refl
  by (Ok v) (Err j) a b g ih = let none : ⊥ = cc in absurd none
  by (Err j) t a b g ih = let none : ⊥ = cc in absurd none

-- the next item does not
pub fails : {A B : Type 0} (e : TakeRefusal) (check : A → Result B Kind) (xs : List A) (ys : List B) (x : A) (rest items : List A) → items ≡ xs ++ x ∷ rest → each check xs ≡ Ok ys → Refuses e (check x) → Refuses e (each check items)
fails e check xs ys x rest items is passed f = carried e (check x) (each check items) (λ k g. ap (each check) is ∙ fault check xs ys x rest k passed g) f

-- what the iterator of a vector has given is a front of its items
pub taken_front : {X A : Type 0} (s : IntoIter X A) (xs : List X) (t : IntoIter X A) → Yields into_iter_steps s xs t → into_iter_items s ≡ xs ++ into_iter_items t
taken_front s [] t y = ap into_iter_items y
taken_front s (x ∷ xs) t y = y.1.0 ∙ ap (λ ys. x ∷ ys) (taken_front y.0 xs t y.2)
