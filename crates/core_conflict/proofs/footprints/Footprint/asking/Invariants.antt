use Rattle.chase_query.specs.Meanings.{reads_of}
use Rattle.core_conflict.specs.Footprints.{ReadsMore}
use Rattle.core_conflict.proofs.Gathering.{Gathers}
use Rattle.core_conflict.proofs.Within.{has_reads}
use Rattle.core_conflict.proofs.footprints.Footprint.asking.Given as goal

abbrev pub invariant-loop-entry : goal.invariant-loop-entry
invariant-loop-entry l = record {
  more : ReadsMore l.fn.self l.more;
  has : Gathers ReadsMore has_reads reads_of l.reads l.entry-index l.more;
}
