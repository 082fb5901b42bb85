use Rattle.std.proofs.Common.{◌≡◌, map, drop}
use Rattle.base_types.specs.Meanings.{datum_of}
use Rattle.core_conflict.specs.Signatures.{spot_asked}
use Rattle.core_conflict.proofs.footprints.asked_in.Given as goal

abbrev pub invariant-loop-value : goal.invariant-loop-value
invariant-loop-value l = record {
  column : l.column ≡ l.value-index;
  first : spot_asked l.relation 0 (map datum_of l.values) ≡ spot_asked l.relation l.column (map datum_of (drop l.value-index l.values));
}
