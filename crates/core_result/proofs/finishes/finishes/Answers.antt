use Rattle.std.proofs.Common.{◌+◌, add-one}
use Rattle.core_queue.proofs.Walking.{stand_after}
use Rattle.core_result.proofs.Telling.{finishes_on, finishes_end, finishes_all}
use Rattle.core_result.proofs.finishes.finishes.Goals as goal

pub returns-then-not-is_over : goal.returns-then-not-is_over
returns-then-not-is_over c = record { told = λ ms B. finishes_end ms B c.args.queue.now c.loop-queued.queued-index c.queued-item.result c.is_over.result c.loop-queued.finishes c.loop-queued-test.true c.queued-item.is c.is_over.ensures.over c.if-not-is_over.true (c.loop-queued.invariant.told ms B) }

pub loop-queued-preserved : goal.loop-queued-preserved
loop-queued-preserved c = record {
  from = stand_after c.args.queue.now c.loop-queued.queued-index _ _ c.queued-item.result c.loop-queued-test.true c.queued-item.is (add-one (c.loop-queued.queued-index + 1)) c.loop-queued.invariant.from;
  told = λ ms B. finishes_on ms B c.args.queue.now c.loop-queued.queued-index c.queued-item.result c.is_over.result c.loop-queued.finishes c.tell_one.new.finishes c.loop-queued-test.true c.queued-item.is c.is_over.ensures.over c.if-not-is_over.false c.in_ok-tell_one.ensures.told (c.loop-queued.invariant.told ms B);
}

pub returns : goal.returns
returns c = record { told = λ ms B. finishes_all ms B c.args.queue.now c.loop-queued.queued-index c.loop-queued.finishes c.loop-queued-test.false (c.loop-queued.invariant.told ms B) }
