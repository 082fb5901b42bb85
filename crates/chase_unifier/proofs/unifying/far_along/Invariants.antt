use Rattle.std.proofs.Common.{◌≡◌}
use Rattle.def_chase.specs.Specific.{image_of}
use Rattle.def_chase.specs.Unifier.{after}
use Rattle.base_types.specs.Meanings.{datum_of, fact_of}
use Rattle.chase_unifier.proofs.unifying.far_along.Given as goal

-- As many steps have been made as were counted.
abbrev pub invariant-loop-step : goal.invariant-loop-step
invariant-loop-step l = datum_of l.reached ≡ after l._step (image_of (fact_of l.tuple) (fact_of l.specific)) (datum_of l.value)
