use Rattle.std.proofs.Common.{◌<◌, ◌≤◌, ◌-◌, ◌++◌, ℕ, List}
use Rattle.def_chase.specs.Queries.{Query, Reply}
use Rattle.chase_query.specs.Meanings.{Read, passing}
use Rattle.def_steps.specs.Attempts.{Attempt}
use Rattle.chase_update.specs.Rows.{Violating, row_tree}
use Rattle.chase_update.specs.Settled.{FindsNone}
use Rattle.chase_update.specs.Logged.{IsLogged}
use Rattle.chase_update.proofs.settled.end_of_passage.Given as goal

-- The look comes from here to what it came to from the start on, with a read of each mapping up to here, and here is a place of a mapping.
abbrev pub invariant-passage : goal.invariant-passage
invariant-passage l = record {
  passed :
      (val : Query → Reply) (P : Attempt) (made : ℕ) (before : List Read) → FindsNone val l.marks
      → IsLogged val made (row_tree l.mappings P (Violating l.from)) before (row_tree l.mappings P (Violating l.place)) (before ++ passing l.from (l.place - l.from) made);
  after : l.from ≤ l.place;
  small : l.place < 65536;
}

-- How many places come after it.
abbrev pub decreases-passage : goal.decreases-passage
decreases-passage l = 65536 - l.place
