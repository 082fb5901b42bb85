-- What a slice's iterator gives, seen through a function.
use Rattle.std.proofs.Common.{◌≡◌, ap, List, [], ◌∷◌, map, refl, Option, Some, None, Bor}
use Rattle.std.specs.Option.{option_map, option_copied}
use Rattle.std.proofs.iter.Yields.{fronts}
use Rattle.std.proofs.lemmas.Iterator.{YieldsList, YieldsList-from_slice}
use Rattle.std.specs.Iterator.{AlwaysYields}
use Rattle.std.specs.Slice.Iter.{iter_rest}
use Rattle.std.specs.declared.slice.Iter.{Iter}

module _ {S A B C : Type 0} (steps : S → Option A → S → Type 0) (v : A → B) (f : B → C) where
  through : (ys : List B) (s : S) → AlwaysYields steps v s ys → AlwaysYields steps (λ x. f (v x)) s (map f ys)
  through [] s h = h
  through (y ∷ ys) s h = (h.0, λ x j p. (ap f (h.1 x j p).0, through ys j (h.1 x j p).1))

-- The iterator of a slice gives f of its elements, where each is read by f.
pub mapped_from_slice : {A B : Type 0} {s : Iter A} (f : A → B) (xs : List A) → iter_rest s ≡ xs → YieldsList fronts (λ y. f y.now) s (map f xs)
mapped_from_slice {s = s} f xs e = record { runs = through fronts (λ y. y.now) f xs s (YieldsList-from_slice xs e).runs }

-- A reference that was found, read by f or copied and read by f.
pub read_found : {A B : Type 0} (f : A → B) (r : Option (Bor A)) → option_map f (option_copied r) ≡ option_map (λ y. f y.now) r
read_found f None = refl
read_found f (Some y) = refl
