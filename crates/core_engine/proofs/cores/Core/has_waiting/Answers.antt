use Rattle.std.proofs.Common.{subst, List}
use Rattle.core_queue.specs.declared.updates.QueuedUpdate.{QueuedUpdate}
use Rattle.core_engine.specs.Told.{HasWaitingAt}
use Rattle.core_engine.proofs.Telling.{waiting_told}
use Rattle.core_engine.proofs.cores.Core.has_waiting.Goals as goal

pub returns : goal.returns
returns c =
    record {
      waiting =
          waiting_told _ _ c.self.inside.queue.items _ c.self.invariant.0.left c.self.view_is c.args.update c.has_waiting.result
          (subst (λ (rs : List QueuedUpdate). HasWaitingAt rs c.args.update c.has_waiting.result) c.deref.ensures.value c.has_waiting.ensures.waiting);
    }
