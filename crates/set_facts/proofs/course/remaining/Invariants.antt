use Rattle.std.proofs.Common.{◌≡◌, not, length}
use Rattle.std.specs.Option.{option_map, option_copied}
use Rattle.std.specs.Prelude.{find}
use Rattle.def_chase.specs.Repository.{has}
use Rattle.base_types.specs.Meanings.{fact_of}
use Rattle.set_facts.specs.Courses.{comes_after, ahead}
use Rattle.set_facts.proofs.course.remaining.Given as goal

-- What is ahead finds what was ahead at the start.
abbrev pub invariant-loop-cursor : goal.invariant-loop-cursor
invariant-loop-cursor g l =
    find (λ u. not (has (g.H.Hides.hidden l.hidden) u)) (ahead (comes_after l.course) (g.F.Facts.tuples l.facts) (option_map fact_of (option_copied l.cursor)))
    ≡ find (λ u. not (has (g.H.Hides.hidden l.hidden) u)) (ahead (comes_after l.course) (g.F.Facts.tuples l.facts) (option_map fact_of (option_copied l.from)))

abbrev pub decreases-loop-cursor : goal.decreases-loop-cursor
decreases-loop-cursor g l = length (ahead (comes_after l.course) (g.F.Facts.tuples l.facts) (option_map fact_of (option_copied l.cursor)))
