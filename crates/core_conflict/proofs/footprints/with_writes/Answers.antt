use Rattle.std.proofs.Common.{◌≡◌, ◌<◌, ◌≤◌, length, map, arith}
use Rattle.base_types.specs.Meanings.{change_of}
use Rattle.core_conflict.specs.Footprints.{has_write_in}
use Rattle.core_conflict.specs.Signatures.{IsWithin}
use Rattle.core_conflict.proofs.Gathering.{begins, goes_on, ends}
use Rattle.core_conflict.proofs.Within.{within_itself, within_more, write_still}
use Rattle.core_conflict.proofs.footprints.with_writes.Goals as goal

pub loop-write-init : goal.loop-write-init
loop-write-init c = record {
  more = within_itself c.args.signature;
  has = begins IsWithin has_write_in change_of within_more write_still c.args.writes.now c.args.signature;
}

pub loop-write-preserved : goal.loop-write-preserved
loop-write-preserved c =
    let l : c.loop-write.write-index < length c.args.writes.now = omega arith in
    record {
      more = within_more c.args.signature c.loop-write.all c.with_values-all.result c.loop-write.invariant.more c.with_values-all.ensures.more;
      has = goes_on IsWithin has_write_in change_of within_more write_still c.args.writes.now c.loop-write.write-index c.write-item.result c.loop-write.all c.with_values-all.result l c.write-item.is c.with_values-all.ensures.more (cc) c.loop-write.invariant.has;
    }

pub returns : goal.returns
returns c =
    let all : c.loop-write.write-index ≡ length c.args.writes.now = omega arith in
    record {
      more = c.loop-write.invariant.more;
      has = ends IsWithin has_write_in change_of within_more write_still c.args.writes.now c.loop-write.write-index c.loop-write.all all (within_itself c.loop-write.all) c.loop-write.invariant.has;
    }
