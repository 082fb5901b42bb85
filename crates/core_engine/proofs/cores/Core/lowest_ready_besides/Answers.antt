use Rattle.std.proofs.Common.{subst, sym, List}
use Rattle.core_queue.specs.Settings.{settings_of}
use Rattle.core_queue.specs.declared.updates.QueuedUpdate.{QueuedUpdate}
use Rattle.core_queue.specs.Order.{IsLowestBesides}
use Rattle.core_engine.proofs.Telling.{besides_told}
use Rattle.core_queue.specs.Order.{CommitsAtLeast, UnreadyUpTo}
use Rattle.core_engine.proofs.cores.Core.lowest_ready_besides.Goals as goal

pub returns : goal.returns
returns c =
    record {
      lowest =
          besides_told _ _ c.self.inside.queue.items _ c.self.invariant.0.left c.self.view_is c.args.numbers.now c.lowest_ready_besides.result
          (subst (λ (rs : List QueuedUpdate). IsLowestBesides c.args.numbers.now (settings_of c.self.inside.settings) rs c.lowest_ready_besides.result) c.deref.ensures.value c.lowest_ready_besides.ensures.lowest);
    }

pub lowest_ready_besides-requires-clause-least : goal.lowest_ready_besides-requires-clause-least
lowest_ready_besides-requires-clause-least c = subst (λ (rs : List QueuedUpdate). CommitsAtLeast rs c.self.inside.least) (sym c.deref.ensures.value) c.self.invariant.1

pub lowest_ready_besides-requires-clause-unready : goal.lowest_ready_besides-requires-clause-unready
lowest_ready_besides-requires-clause-unready c = subst (λ (rs : List QueuedUpdate). UnreadyUpTo rs c.self.inside.unready) (sym c.deref.ensures.value) c.self.invariant.3
