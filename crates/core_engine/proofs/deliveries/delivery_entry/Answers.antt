use Rattle.core_queue.specs.Settings.{settings_of}
use Rattle.core_engine.proofs.Entering.{delivery_told}
use Rattle.core_engine.proofs.Telling.{between_there}
use Rattle.core_engine.proofs.deliveries.delivery_entry.Goals as goal

pub standing-standing-requires : goal.standing-standing-requires
standing-standing-requires c =
    record { between = between_there c.args.queue.now c.args.place c.index-queue-place.result c.requires.numbers c.requires.place c.index-queue-place.is }

pub returns : goal.returns
returns c =
    record {
      told =
          delivery_told (settings_of c.args.settings) c.args.place c.number-update.result c.committed_from-committed.result c.args.queue.now c.index-queue-place.result c.standing-standing.result
          c.requires.numbers c.requires.place c.index-queue-place.is c.number-update.ensures.number c.committed_from-committed.ensures.committed c.standing-standing.ensures.standing;
    }
