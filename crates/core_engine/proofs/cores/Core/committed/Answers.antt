use Rattle.std.proofs.Common.{subst, sym, List}
use Rattle.core_queue.specs.declared.updates.QueuedUpdate.{QueuedUpdate}
use Rattle.core_queue.specs.Order.{CommitsAtLeast, HasCommitted}
use Rattle.core_engine.proofs.Telling.{committed_told}
use Rattle.core_engine.proofs.cores.Core.committed.Goals as goal

pub returns : goal.returns
returns c =
    record {
      committed =
          committed_told _ _ c.self.inside.queue.items _ c.self.invariant.0.left c.self.view_is c.committed_from.result
          (subst (λ (rs : List QueuedUpdate). HasCommitted rs c.committed_from.result) c.deref.ensures.value c.committed_from.ensures.committed);
    }

pub committed_from-requires-clause-least : goal.committed_from-requires-clause-least
committed_from-requires-clause-least c = subst (λ (rs : List QueuedUpdate). CommitsAtLeast rs c.self.inside.least) (sym c.deref.ensures.value) c.self.invariant.1
