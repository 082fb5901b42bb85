use Rattle.std.proofs.Common.{subst, sym, List}
use Rattle.core_queue.specs.Settings.{settings_of}
use Rattle.core_queue.specs.declared.updates.QueuedUpdate.{QueuedUpdate}
use Rattle.core_queue.specs.Order.{IsLowestReady}
use Rattle.core_engine.proofs.Telling.{ready_told}
use Rattle.core_queue.specs.Order.{CommitsAtLeast}
use Rattle.core_engine.proofs.cores.Core.lowest_ready.Goals as goal

pub returns : goal.returns
returns c =
    record {
      lowest =
          ready_told _ _ c.self.inside.queue.items _ c.self.invariant.0.left c.self.view_is c.lowest_ready.result
          (subst (λ (rs : List QueuedUpdate). IsLowestReady (settings_of c.self.inside.settings) rs c.lowest_ready.result) c.deref.ensures.value c.lowest_ready.ensures.lowest);
    }

pub lowest_ready-requires-clause-least : goal.lowest_ready-requires-clause-least
lowest_ready-requires-clause-least c = subst (λ (rs : List QueuedUpdate). CommitsAtLeast rs c.self.inside.least) (sym c.deref.ensures.value) c.self.invariant.1
