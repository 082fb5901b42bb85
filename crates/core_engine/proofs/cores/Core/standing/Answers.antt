use Rattle.std.proofs.Common.{subst, List}
use Rattle.core_entries.specs.Meanings.{standing_of}
use Rattle.core_queue.specs.Settings.{settings_of}
use Rattle.core_queue.specs.declared.updates.QueuedUpdate.{QueuedUpdate}
use Rattle.std.specs.Option.{option_map}
use Rattle.core_engine.specs.Told.{HasStandingAt}
use Rattle.core_engine.proofs.Telling.{standing_told}
use Rattle.core_engine.proofs.cores.Core.standing.Goals as goal

pub returns : goal.returns
returns c =
    record {
      standing =
          standing_told _ _ c.self.inside.queue.items _ c.self.invariant.0.left c.self.view_is c.args.update (option_map standing_of c.standing.result)
          (subst (λ (rs : List QueuedUpdate). HasStandingAt (settings_of c.self.inside.settings) rs c.args.update (option_map standing_of c.standing.result)) c.deref.ensures.value c.standing.ensures.standing);
    }
