use Rattle.std.proofs.Common.{◌≡◌, ◌++◌, map, length}
use Rattle.std.specs.Option.{option_map, option_copied}
use Rattle.std.specs.Prelude.{filter}
use Rattle.def_chase.specs.Queries.{holds_null}
use Rattle.def_chase.proofs.Cursors.{rest_of}
use Rattle.base_types.specs.Meanings.{fact_of}
use Rattle.chase_eval.proofs.occurrences.occurrences.Given as goal

-- What was found with what is left is the whole.
abbrev pub invariant-loop-cursor : goal.invariant-loop-cursor
invariant-loop-cursor g l =
    map fact_of l.found.items ++ rest_of (holds_null l.name.update l.name.place) (g.F.Facts.tuples l.facts) (option_map fact_of (option_copied l.cursor))
    ≡ filter (holds_null l.name.update l.name.place) (g.F.Facts.tuples l.facts)

-- How many tuples are left.
abbrev pub decreases-loop-cursor : goal.decreases-loop-cursor
decreases-loop-cursor g l = length (rest_of (holds_null l.name.update l.name.place) (g.F.Facts.tuples l.facts) (option_map fact_of (option_copied l.cursor)))
