use Rattle.std.proofs.Common.{sym, add-one}
use Rattle.core_queue.proofs.Skipping.{between_here, one_more_unready}
use Rattle.core_queue.proofs.unready.unready_from.Goals as goal

pub is_unready-requires : goal.is_unready-requires
is_unready-requires c = record { between = between_here c.args.queue.now c.updates.count c.index-queue-count.result c.updates-test.true c.index-queue-count.is c.requires.from }

pub updates-preserved : goal.updates-preserved
updates-preserved c =
    record {
      unready =
          one_more_unready c.args.queue.now c.updates.count _ c.index-queue-count.result (add-one c.updates.count) c.updates-test.true (sym c.index-queue-count.is) (c.is_unready.ensures.unready c.if-not-is_unready.false)
          c.updates.invariant.unready;
    }
