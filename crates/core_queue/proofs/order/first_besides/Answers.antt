use Rattle.std.proofs.Common.{subst, sym, ℕ, suc, List, Some, None}
use Rattle.core_queue.specs.Settings.{settings_of}
use Rattle.core_queue.specs.Queues.{AreFrom}
use Rattle.core_queue.specs.Order.{IsFirstBesides}
use Rattle.core_queue.specs.declared.updates.QueuedUpdate.{QueuedUpdate}
use Rattle.core_queue.proofs.Walking.{besides_test, found, passed, ended, first_number, next_number, stand_after}
use Rattle.core_queue.proofs.Skipping.{past_from}
use Rattle.core_queue.proofs.order.first_besides.Goals as goal

pub loop-queued-init : goal.loop-queued-init
loop-queued-init c =
    record {
      from = subst (λ (n : ℕ). AreFrom n c.past-rest.result.now) (first_number c.args.first) (past_from c.args.queue.now c.past-rest.result.now c.args.first c.requires.there c.past-rest.ensures.rest c.requires.from);
      left = λ o first. subst (λ (n : ℕ). IsFirstBesides c.args.numbers.now (settings_of c.args.settings) c.args.committed n c.past-rest.result.now o) (sym (first_number c.args.first)) first;
    }

pub returns-then-is_ready_besides : goal.returns-then-is_ready_besides
returns-then-is_ready_besides c =
    record {
      first = subst (λ (xs : List QueuedUpdate). IsFirstBesides c.args.numbers.now (settings_of c.args.settings) c.args.committed (suc c.args.first) xs (Some c.number-number.result)) c.past-rest.ensures.rest
          (c.loop-queued.invariant.left _
          (found (besides_test c.args.numbers.now (settings_of c.args.settings) c.args.committed) c.past-rest.result.now c.loop-queued.queued-index _ c.number-number.result c.queued-item.result c.is_ready_besides.result c.loop-queued-test.true c.queued-item.is c.loop-queued.invariant.from c.number-number.ensures.number c.is_ready_besides.ensures.ready c.if-is_ready_besides.true));
    }

pub loop-queued-preserved : goal.loop-queued-preserved
loop-queued-preserved c =
    record {
      from = stand_after c.past-rest.result.now c.loop-queued.queued-index _ _ c.queued-item.result c.loop-queued-test.true c.queued-item.is (next_number c.loop-queued.queued-index c.args.first) c.loop-queued.invariant.from;
      left = λ o first. c.loop-queued.invariant.left o
          (passed (besides_test c.args.numbers.now (settings_of c.args.settings) c.args.committed) c.past-rest.result.now c.loop-queued.queued-index _ _ c.number-number.result c.queued-item.result c.is_ready_besides.result o c.loop-queued-test.true c.queued-item.is c.loop-queued.invariant.from c.number-number.ensures.number c.is_ready_besides.ensures.ready c.if-is_ready_besides.false (next_number c.loop-queued.queued-index c.args.first) first);
    }

pub returns : goal.returns
returns c =
    record {
      first = subst (λ (xs : List QueuedUpdate). IsFirstBesides c.args.numbers.now (settings_of c.args.settings) c.args.committed (suc c.args.first) xs None) c.past-rest.ensures.rest
          (c.loop-queued.invariant.left _ (ended (besides_test c.args.numbers.now (settings_of c.args.settings) c.args.committed) c.past-rest.result.now c.loop-queued.queued-index _ c.loop-queued-test.false));
    }
