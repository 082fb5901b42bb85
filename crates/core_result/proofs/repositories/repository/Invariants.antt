use Rattle.std.proofs.Common.{◌≡◌, ◌++◌, length, map}
use Rattle.base_types.specs.Meanings.{fact_of}
use Rattle.def_chase.specs.Values.{outer}
use Rattle.def_steps.specs.Serial.{answered}
use Rattle.set_versions.specs.Standing.{seen}
use Rattle.core_result.proofs.repositories.repository.Given as goal

-- What was told so far, and what is told of those that are to come, are all.
abbrev pub invariant-loop-tuple : goal.invariant-loop-tuple
invariant-loop-tuple l = map fact_of l.forms.items ++ map outer (answered l.sweep) ≡ map outer (answered (seen l.number l.versions))

abbrev pub decreases-loop-tuple : goal.decreases-loop-tuple
decreases-loop-tuple l = length l.sweep
