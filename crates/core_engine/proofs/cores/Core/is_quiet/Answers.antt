use Rattle.std.proofs.Common.{subst, sym, List}
use Rattle.core_queue.specs.Settings.{settings_of}
use Rattle.core_queue.specs.declared.updates.QueuedUpdate.{QueuedUpdate}
use Rattle.core_queue.specs.Order.{IsQuiet}
use Rattle.core_engine.proofs.Telling.{quiet_told}
use Rattle.core_queue.specs.Order.{CommitsAtLeast}
use Rattle.core_engine.proofs.cores.Core.is_quiet.Goals as goal

pub returns : goal.returns
returns c =
    record {
      quiet =
          quiet_told _ _ c.self.inside.queue.items _ c.self.invariant.0.left c.self.view_is c.is_quiet.result
          (subst (λ (rs : List QueuedUpdate). IsQuiet (settings_of c.self.inside.settings) rs c.is_quiet.result) c.deref.ensures.value c.is_quiet.ensures.quiet);
    }

pub is_quiet-requires-clause-least : goal.is_quiet-requires-clause-least
is_quiet-requires-clause-least c = subst (λ (rs : List QueuedUpdate). CommitsAtLeast rs c.self.inside.least) (sym c.deref.ensures.value) c.self.invariant.1
