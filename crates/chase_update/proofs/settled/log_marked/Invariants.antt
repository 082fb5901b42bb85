use Rattle.std.proofs.Common.{◌≡◌, ◌-◌}
use Rattle.def_chase.specs.Queries.{Query, Reply}
use Rattle.chase_query.specs.Meanings.{reads_in}
use Rattle.def_steps.specs.Attempts.{Attempt}
use Rattle.chase_update.specs.Rows.{Violating, row_tree}
use Rattle.chase_update.specs.Settled.{FindsNone}
use Rattle.chase_update.specs.Logged.{IsLogged}
use Rattle.chase_update.proofs.settled.log_marked.Given as goal

-- The look comes from here to what it came to from the start on, and its reads up to here are in the log.
abbrev pub invariant-places : goal.invariant-places
invariant-places l =
    (val : Query → Reply) (P : Attempt) → FindsNone val l.marks → P.number ≡ l.number
    → IsLogged val l.made (row_tree l.mappings P (Violating l.from)) (reads_in l.fn.log.items) (row_tree l.mappings P (Violating l.place)) (reads_in l.log.items)

-- How many places come after it.
abbrev pub decreases-places : goal.decreases-places
decreases-places l = 65536 - l.place
