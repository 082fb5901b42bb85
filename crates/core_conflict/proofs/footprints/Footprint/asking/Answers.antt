use Rattle.std.proofs.Common.{◌≡◌, ◌∙◌, ◌<◌, length, arith, sym}
use Rattle.chase_query.specs.Meanings.{reads_of}
use Rattle.chase_query.proofs.Entries.{all_in}
use Rattle.core_conflict.specs.Footprints.{ReadsMore, has_read}
use Rattle.core_conflict.proofs.Within.{has_reads, reads_itself, reads_more, reads_still}
use Rattle.core_conflict.proofs.Gathering.{begins, goes_on, ends}
use Rattle.core_conflict.proofs.footprints.Footprint.asking.Goals as goal

pub loop-entry-init : goal.loop-entry-init
loop-entry-init c = record { more = reads_itself c.args.self; has = begins ReadsMore has_reads reads_of (reads_more) (reads_still) c.args.reads.now c.args.self }

pub loop-entry-preserved : goal.loop-entry-preserved
loop-entry-preserved c =
    let l : c.loop-entry.entry-index < length c.args.reads.now = omega arith in
    record {
      more = reads_more c.args.self c.loop-entry.more c.asking_by-more.result c.loop-entry.invariant.more c.asking_by-more.ensures.more;
      has = goes_on ReadsMore has_reads reads_of (reads_more) (reads_still) c.args.reads.now c.loop-entry.entry-index c.entry-item.result c.loop-entry.more c.asking_by-more.result l c.entry-item.is c.asking_by-more.ensures.more c.asking_by-more.ensures.has c.loop-entry.invariant.has;
    }

pub returns-clause-has : goal.returns-clause-has
returns-clause-has c =
    let all : c.loop-entry.entry-index ≡ length c.args.reads.now = omega arith in
    sym (all_in (has_read c.loop-entry.more) c.args.reads.now)
    ∙ ends ReadsMore has_reads reads_of (reads_more) (reads_still) c.args.reads.now c.loop-entry.entry-index c.loop-entry.more all (reads_itself c.loop-entry.more) c.loop-entry.invariant.has
