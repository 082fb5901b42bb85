use Rattle.std.proofs.Common.{◌≡◌, map, take}
use Rattle.def_chase.specs.Values.{outer_datum}
use Rattle.base_types.specs.Meanings.{datum_of}
use Rattle.base_types.proofs.outer.are_outer.Given as goal

-- The values that were gone over are their own outer forms.
abbrev pub invariant-loop-value : goal.invariant-loop-value
invariant-loop-value l = map outer_datum (map datum_of (take l.value-index l.values)) ≡ map datum_of (take l.value-index l.values)
