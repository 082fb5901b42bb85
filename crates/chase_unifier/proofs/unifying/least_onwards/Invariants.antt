use Rattle.std.proofs.Common.{◌≡◌}
use Rattle.def_chase.specs.Specific.{image_of}
use Rattle.def_chase.specs.Unifier.{after, least_after}
use Rattle.base_types.specs.Meanings.{datum_of, fact_of}
use Rattle.chase_unifier.proofs.unifying.least_onwards.Given as goal

-- As many steps have been made as were counted, and the least value so far is known.
abbrev pub invariant-loop-step : goal.invariant-loop-step
invariant-loop-step l = record {
  next : datum_of l.next ≡ after l._step (image_of (fact_of l.tuple) (fact_of l.specific)) (datum_of l.value);
  least : datum_of l.least ≡ least_after l._step (image_of (fact_of l.tuple) (fact_of l.specific)) (datum_of l.value);
}
