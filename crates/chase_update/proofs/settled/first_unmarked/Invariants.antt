use Rattle.std.proofs.Common.{◌≡◌, ◌-◌}
use Rattle.def_chase.specs.Queries.{Query, Reply}
use Rattle.def_steps.specs.Attempts.{Attempt}
use Rattle.chase_update.specs.Rows.{Violating, row_tree}
use Rattle.chase_update.specs.Settled.{FindsNone, IsShorter}
use Rattle.chase_update.proofs.settled.first_unmarked.Given as goal

-- The look comes from here to what it came to from the start on.
abbrev pub invariant-places : goal.invariant-places
invariant-places l = (val : Query → Reply) (P : Attempt) → FindsNone val l.marks → P.number ≡ l.number → IsShorter val (row_tree l.mappings P (Violating l.from)) (row_tree l.mappings P (Violating l.place))

-- How many places come after it.
abbrev pub decreases-places : goal.decreases-places
decreases-places l = 65536 - l.place
