-- Sets of tuples, one for each relation.
use Rattle.std.specs.Prelude.{◌≡◌, ℕ, suc, List, [], ◌∷◌, ◌++◌}
use Rattle.std.specs.List.{AllByRecursion}
use Rattle.def_chase.specs.Values.{Fact}

-- the tuples of all sets, in order
abbrev pub gathered : List (List Fact) → List Fact
gathered [] = []
gathered (D ∷ Ds) = D ++ gathered Ds

-- each set has only tuples of its own relation, numbered from n on
abbrev pub AreApart : ℕ → List (List Fact) → Type 0
AreApart n [] = Unit {0}
AreApart n (D ∷ Ds) = AllByRecursion (λ t. t.relation ≡ n) D × AreApart (suc n) Ds
