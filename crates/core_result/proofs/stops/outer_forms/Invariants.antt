use Rattle.std.proofs.Common.{◌≡◌, ◌++◌, drop, map}
use Rattle.base_types.specs.Meanings.{fact_of}
use Rattle.def_chase.specs.Values.{outer}
use Rattle.core_result.proofs.stops.outer_forms.Given as goal

-- The forms so far, and those of the tuples that are left, are all.
abbrev pub invariant-loop-tuple : goal.invariant-loop-tuple
invariant-loop-tuple l = map fact_of l.forms.items ++ map outer (map fact_of (drop l.tuple-index l.tuple-items)) ≡ map outer (map fact_of l.tuples.items)
