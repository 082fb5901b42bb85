use Rattle.std.proofs.Common.{subst, sym, List}
use Rattle.core_queue.specs.Settings.{settings_of}
use Rattle.core_queue.specs.declared.updates.QueuedUpdate.{QueuedUpdate}
use Rattle.core_queue.specs.Order.{IsLowestDeliverable}
use Rattle.core_engine.proofs.Telling.{deliverable_told}
use Rattle.core_queue.specs.Order.{CommitsAtLeast}
use Rattle.core_engine.proofs.cores.Core.lowest_deliverable.Goals as goal

pub returns : goal.returns
returns c =
    record {
      lowest =
          deliverable_told _ _ c.self.inside.queue.items _ c.self.invariant.0.left c.self.view_is c.lowest_deliverable.result
          (subst (λ (rs : List QueuedUpdate). IsLowestDeliverable (settings_of c.self.inside.settings) rs c.lowest_deliverable.result) c.deref.ensures.value c.lowest_deliverable.ensures.lowest);
    }

pub lowest_deliverable-requires-clause-least : goal.lowest_deliverable-requires-clause-least
lowest_deliverable-requires-clause-least c = subst (λ (rs : List QueuedUpdate). CommitsAtLeast rs c.self.inside.least) (sym c.deref.ensures.value) c.self.invariant.1
