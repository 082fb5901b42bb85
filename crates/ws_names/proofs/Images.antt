-- Images of tuples of the program.
use Rattle.std.proofs.Common.{◌≡◌, ap, refl, Bool, ◌&&◌, List, [], ◌∷◌, map}
use Rattle.std.specs.Cmp.Lexicographic.{pointwise}
use Rattle.std.specs.Ordering.{on, eq_by_cmp}
use Rattle.def_chase.specs.Values.{fact_cmp, same_fact}
use Rattle.base_types.specs.Meanings.{fact_of}
use Rattle.base_types.specs.declared.tuples.Tuple.{Tuple}

-- They are the same as tuples if they mean the same.
pub same_images : (xs ys : List Tuple) → pointwise (eq_by_cmp (on fact_of fact_cmp)) xs ys ≡ pointwise same_fact (map fact_of xs) (map fact_of ys)
same_images [] [] = refl
same_images [] (y ∷ ys) = refl
same_images (x ∷ xs) [] = refl
same_images (x ∷ xs) (y ∷ ys) = ap (λ (b : Bool). same_fact (fact_of x) (fact_of y) && b) (same_images xs ys)
