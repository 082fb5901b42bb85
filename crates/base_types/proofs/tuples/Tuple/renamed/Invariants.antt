use Rattle.std.proofs.Common.{◌≡◌, map, take}
use Rattle.def_chase.specs.Values.{outer_datum}
use Rattle.base_types.specs.Meanings.{datum_of}
use Rattle.base_types.proofs.tuples.Tuple.renamed.Given as goal

-- The outer forms so far are those of the values that were gone over.
abbrev pub invariant-loop-value : goal.invariant-loop-value
invariant-loop-value l = map datum_of l.values.items ≡ map outer_datum (map datum_of (take l.value-index l.value-items))
