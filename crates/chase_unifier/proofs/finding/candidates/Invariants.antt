use Rattle.std.proofs.Common.{◌≡◌, ◌++◌, map, length}
use Rattle.std.specs.Prelude.{filter}
use Rattle.def_chase.specs.Specific.{more_specific}
use Rattle.base_types.specs.Meanings.{fact_of}
use Rattle.chase_unifier.proofs.finding.candidates.Given as goal

-- What was found with what is to come is the whole.
abbrev pub invariant-loop-held : goal.invariant-loop-held
invariant-loop-held g l =
    map fact_of l.found.items ++ filter (λ s. more_specific s (fact_of l.tuple)) l.walk.left
    ≡ filter (λ s. more_specific s (fact_of l.tuple)) (g.F.Facts.tuples l.facts)

-- How many tuples are to come.
abbrev pub decreases-loop-held : goal.decreases-loop-held
decreases-loop-held g l = length l.walk.left
