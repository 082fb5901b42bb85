use Rattle.std.proofs.Common.{◌∙◌, ap, suc}
use Rattle.core_queue.proofs.Walking.{one_more, no_more, all_over, stands_here, stand_after}
use Rattle.core_queue.proofs.order.counted.Goals as goal

pub returns-then-not-is_over : goal.returns-then-not-is_over
returns-then-not-is_over c = record { committed = λ ms B. no_more ms B c.args.rest.now c.loop-queued.queued-index c.loop-queued.count _ c.queued-item.result c.is_over.result c.loop-queued-test.true c.queued-item.is c.is_over.ensures.over c.if-not-is_over.true (c.loop-queued.invariant.left ms B) }

pub loop-queued-preserved : goal.loop-queued-preserved
loop-queued-preserved c = record {
  from = stand_after c.args.rest.now c.loop-queued.queued-index (suc c.loop-queued.count) _ c.queued-item.result c.loop-queued-test.true c.queued-item.is (ap suc (c.number-count.ensures.number ∙ (stands_here c.args.rest.now c.loop-queued.queued-index (suc c.loop-queued.count) c.queued-item.result c.loop-queued-test.true c.queued-item.is c.loop-queued.invariant.from).number)) c.loop-queued.invariant.from;
  left = λ ms B. one_more ms B c.args.rest.now c.loop-queued.queued-index c.loop-queued.count _ _ c.queued-item.result c.is_over.result c.loop-queued-test.true c.queued-item.is c.loop-queued.invariant.from c.number-count.ensures.number c.is_over.ensures.over c.if-not-is_over.false (c.loop-queued.invariant.left ms B);
}

pub returns : goal.returns
returns c = record { committed = λ ms B. all_over ms B c.args.rest.now c.loop-queued.queued-index c.loop-queued.count _ c.loop-queued-test.false (c.loop-queued.invariant.left ms B) }
