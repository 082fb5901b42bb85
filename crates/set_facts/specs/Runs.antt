-- Runs of tuples in order, and two of them as one.
use Rattle.std.specs.Borrow.{Bor}
use Rattle.std.specs.Option.{option_copied, option_map, option_to_list}
use Rattle.std.specs.Prelude.{not, List, [], ◌∷◌, ◌++◌, filter, map, Option}
use Rattle.std.specs.Ordering.{match_ordering}
use Rattle.base_types.specs.declared.tuples.Tuple.{Tuple}
use Rattle.base_types.specs.Meanings.{fact_of}
use Rattle.def_chase.specs.Repository.{has}
use Rattle.def_chase.specs.Values.{Fact, fact_cmp}
use Rattle.set_facts.specs.declared.runs.Run.{Run}
use Rattle.set_facts.specs.declared.runs.Run.TheVariants.{Listed, Together, Few}

-- The tuples of a run that are still to come.
abbrev pub run_of : Run → List Fact
run_of (Listed tuples) = map fact_of tuples.now
run_of (Together range) = map fact_of range
run_of (Few few) = map fact_of few.left

-- The tuples that are not hidden.
abbrev pub left_of : List Fact → List Fact → List Fact
left_of hidden D = filter (λ u. not (has hidden u)) D

-- The tuple, if there is one, and then the tuples of D.
abbrev pub ahead_of : Option (Bor Tuple) → List Fact → List Fact
ahead_of o D = option_to_list (option_map fact_of (option_copied o)) ++ D

-- A list that begins with x, merged with a second one; f merges the rest of the first list with a list. Of the first tuples of
-- both the lesser comes first; if they are equal, the tuple comes once.
abbrev pub merged_with : Fact → (List Fact → List Fact) → List Fact → List Fact
merged_with x f [] = x ∷ f []
merged_with x f (y ∷ ys) = match_ordering (fact_cmp x y) (x ∷ f (y ∷ ys)) (x ∷ f ys) (y ∷ merged_with x f ys)

-- Two lists in order, merged into one in order.
abbrev pub merged : List Fact → List Fact → List Fact
merged [] ys = ys
merged (x ∷ xs) ys = merged_with x (merged xs) ys
