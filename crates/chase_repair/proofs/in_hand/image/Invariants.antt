use Rattle.std.proofs.Common.{◌≡◌, map, take}
use Rattle.def_chase.specs.Mappings.{fact_under, listed}
use Rattle.base_types.specs.Meanings.{datum_of, fact_of, pattern_of}
use Rattle.chase_repair.proofs.in_hand.image.Given as goal

-- The tuples of the atoms so far.
abbrev pub invariant-loop-atom : goal.invariant-loop-atom
invariant-loop-atom l = map fact_of l.tuples.items ≡ map (fact_under (listed (map datum_of l.values.items))) (map pattern_of (take l.atom-index l.atom-items))
