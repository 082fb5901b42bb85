use Rattle.std.proofs.Common.{◌≡◌, map, take}
use Rattle.def_chase.specs.Mappings.{value_under, listed}
use Rattle.base_types.specs.Meanings.{datum_of, slot_of}
use Rattle.chase_repair.proofs.generating.values_under.Given as goal

-- The values of the terms so far.
abbrev pub invariant-loop-term : goal.invariant-loop-term
invariant-loop-term l = map datum_of l.values.items ≡ map (value_under (listed (map datum_of l.binding.items))) (map slot_of (take l.term-index l.term-items))
