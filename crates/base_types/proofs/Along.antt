-- Lists compared through a function are compared as the lists of what it gives.
use Rattle.std.proofs.Common.{◌≡◌, ap, refl, List, [], ◌∷◌, map}
use Rattle.std.specs.declared.cmp.Ordering.{Ordering}
use Rattle.std.specs.Ordering.{on, ordering_then}
use Rattle.std.specs.Cmp.Lexicographic.{slice_cmp}

pub along : {K J : Type 0} (f : K → J) (R : J → J → Ordering) (xs ys : List K) → slice_cmp (on f R) xs ys ≡ slice_cmp R (map f xs) (map f ys)
along f R [] [] = refl
along f R [] (y ∷ ys) = refl
along f R (x ∷ xs) [] = refl
along f R (x ∷ xs) (y ∷ ys) = ap (λ o. ordering_then (R (f x) (f y)) o) (along f R xs ys)
