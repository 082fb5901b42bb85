use Rattle.std.proofs.Common.{◌+◌, add-one, ap}
use Rattle.core_queue.proofs.Walking.{stand_after}
use Rattle.core_result.specs.Told.{stop_told}
use Rattle.core_result.proofs.Telling.{stop_on, stop_none, stop_told_here}
use Rattle.core_result.proofs.stops.stop.Goals as goal

pub returns-then-not-is_over : goal.returns-then-not-is_over
returns-then-not-is_over c = record {
  told = stop_told_here c.stop_at.result c.args.queue.now c.loop-queued.queued-index c.number.result c.queued-item.result c.is_over.result _ c.loop-queued-test.true c.queued-item.is c.loop-queued.invariant.from
      c.number.ensures.number c.is_over.ensures.over c.if-not-is_over.true c.lack.ensures.lack c.loop-queued.invariant.same c.stop_at.ensures.told;
}

pub loop-queued-preserved : goal.loop-queued-preserved
loop-queued-preserved c = record {
  from = stand_after c.args.queue.now c.loop-queued.queued-index _ _ c.queued-item.result c.loop-queued-test.true c.queued-item.is (add-one (c.loop-queued.queued-index + 1)) c.loop-queued.invariant.from;
  same = λ ms B. stop_on ms B c.args.queue.now c.loop-queued.queued-index c.queued-item.result c.is_over.result c.loop-queued-test.true c.queued-item.is c.is_over.ensures.over c.if-not-is_over.false (c.loop-queued.invariant.same ms B);
}

pub returns : goal.returns
returns c = record { told = λ ms B. ap (stop_told ms B) (stop_none ms B c.args.queue.now c.loop-queued.queued-index c.loop-queued-test.false (c.loop-queued.invariant.same ms B)) }
