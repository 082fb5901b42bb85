use Rattle.base_types.specs.Meanings.{change_of}
use Rattle.core_conflict.specs.Footprints.{has_write_in}
use Rattle.core_conflict.specs.Signatures.{IsWithin}
use Rattle.core_conflict.proofs.Gathering.{Gathers}
use Rattle.core_conflict.proofs.footprints.with_writes.Given as goal

abbrev pub invariant-loop-write : goal.invariant-loop-write
invariant-loop-write l = record {
  more : IsWithin l.fn.signature l.all;
  has : Gathers IsWithin has_write_in change_of l.writes l.write-index l.all;
}
