use Rattle.std.proofs.Common.{◌≡◌, ◌<◌, length, arith}
use Rattle.core_conflict.proofs.Within.{within_more, values_next}
use Rattle.core_conflict.proofs.footprints.with_each.Goals as goal

pub loop-value-preserved : goal.loop-value-preserved
loop-value-preserved c =
    let l : c.loop-value.value-index < length c.args.values.now = omega arith in
    record {
      column = omega (arith, c.loop-value.invariant.column);
      more = within_more c.args.signature c.loop-value.all c.with-all.result c.loop-value.invariant.more c.with-all.ensures.more;
      has = values_next c.loop-value.all c.with-all.result c.args.relation c.loop-value.column c.loop-value.value-index c.spot.result c.args.values.now c.value-item.result l c.value-item.is c.spot.ensures.spot c.with-all.ensures.more c.with-all.ensures.there c.loop-value.invariant.has;
    }
