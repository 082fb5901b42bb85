use Rattle.std.proofs.Common.{◌≡◌, map, take}
use Rattle.def_chase.specs.Values.{under}
use Rattle.base_types.specs.Meanings.{fact_of}
use Rattle.base_types.specs.Maps.{images_of, moved_by}
use Rattle.def_steps.specs.Rewriting.{in_order}
use Rattle.chase_repair.proofs.rewriting.moved_in_order.Given as goal

-- The set has the substituted tuples so far.
abbrev pub invariant-loop-tuple : goal.invariant-loop-tuple
invariant-loop-tuple l = map fact_of l.set.keys ≡ in_order (map (under (moved_by (images_of l.sub))) (map fact_of (take l.tuple-index l.tuples)))
