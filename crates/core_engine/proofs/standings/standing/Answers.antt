use Rattle.std.proofs.Common.{sym}
use Rattle.core_queue.specs.Settings.{settings_of}
use Rattle.core_engine.proofs.Telling.{standing_is, no_standing}
use Rattle.core_engine.proofs.standings.standing.Goals as goal

pub returns-in-Some : goal.returns-in-Some
returns-in-Some c =
    record {
      standing =
          standing_is (settings_of c.args.settings) c.args.queue.now c.args.number c.committed.result c.in-Some.queued.now c.standing.result (sym c.in-Some.ensures.queued) c.committed.ensures.committed
          c.standing.ensures.standing;
    }

pub returns-in-None : goal.returns-in-None
returns-in-None c = record { standing = no_standing (settings_of c.args.settings) c.args.queue.now c.args.number (sym c.in-None.ensures.queued) }
