use Rattle.std.proofs.Common.{◌≡◌, true, map, drop}
use Rattle.base_types.specs.Meanings.{datum_of}
use Rattle.core_conflict.specs.Signatures.{IsWithin, has_values}
use Rattle.core_conflict.specs.declared.signatures.Signature.{Signature}
use Rattle.core_conflict.proofs.footprints.with_each.Given as goal

abbrev pub invariant-loop-value : goal.invariant-loop-value
invariant-loop-value l = record {
  column : l.column ≡ l.value-index;
  more : IsWithin l.fn.signature l.all;
  has : (t : Signature) → IsWithin l.all t → has_values t l.relation l.column (map datum_of (drop l.value-index l.values)) ≡ true → has_values t l.relation 0 (map datum_of l.values) ≡ true;
}
