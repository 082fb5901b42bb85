use Rattle.std.proofs.Common.{subst, sym, ℕ}
use Rattle.core_queue.specs.Settings.{settings_of}
use Rattle.core_queue.specs.Queues.{AreFrom}
use Rattle.core_queue.specs.Order.{IsFirstReady}
use Rattle.core_queue.proofs.Walking.{ready_test, found, passed, ended, first_number, next_number, stand_after}
use Rattle.core_queue.proofs.order.first_ready.Goals as goal

pub loop-queued-init : goal.loop-queued-init
loop-queued-init c =
    record {
      from = subst (λ (n : ℕ). AreFrom n c.args.rest.now) (first_number c.args.committed) c.requires.from;
      left = λ o first. subst (λ (n : ℕ). IsFirstReady (settings_of c.args.settings) c.args.committed n c.args.rest.now o) (sym (first_number c.args.committed)) first;
    }

pub returns-then-is_ready : goal.returns-then-is_ready
returns-then-is_ready c =
    record {
      first = c.loop-queued.invariant.left _
          (found (ready_test (settings_of c.args.settings) c.args.committed) c.args.rest.now c.loop-queued.queued-index _ c.number-number.result c.queued-item.result c.is_ready.result c.loop-queued-test.true c.queued-item.is c.loop-queued.invariant.from c.number-number.ensures.number c.is_ready.ensures.ready c.if-is_ready.true);
    }

pub loop-queued-preserved : goal.loop-queued-preserved
loop-queued-preserved c =
    record {
      from = stand_after c.args.rest.now c.loop-queued.queued-index _ _ c.queued-item.result c.loop-queued-test.true c.queued-item.is (next_number c.loop-queued.queued-index c.args.committed) c.loop-queued.invariant.from;
      left = λ o first. c.loop-queued.invariant.left o
          (passed (ready_test (settings_of c.args.settings) c.args.committed) c.args.rest.now c.loop-queued.queued-index _ _ c.number-number.result c.queued-item.result c.is_ready.result o c.loop-queued-test.true c.queued-item.is c.loop-queued.invariant.from c.number-number.ensures.number c.is_ready.ensures.ready c.if-is_ready.false (next_number c.loop-queued.queued-index c.args.committed) first);
    }

pub returns : goal.returns
returns c =
    record { first = c.loop-queued.invariant.left _ (ended (ready_test (settings_of c.args.settings) c.args.committed) c.args.rest.now c.loop-queued.queued-index _ c.loop-queued-test.false) }
