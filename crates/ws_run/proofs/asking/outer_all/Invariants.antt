use Rattle.std.proofs.Common.{◌≡◌, map, take}
use Rattle.def_chase.specs.Values.{outer}
use Rattle.base_types.specs.Meanings.{fact_of}
use Rattle.ws_run.proofs.asking.outer_all.Given as goal

-- The outer forms so far.
abbrev pub invariant-loop-tuple : goal.invariant-loop-tuple
invariant-loop-tuple l = map fact_of l.forms.items ≡ map outer (map fact_of (take l.tuple-index l.tuples))
