use Rattle.core_queue.specs.Settings.{settings_of}
use Rattle.core_engine.proofs.Entering.{step_told}
use Rattle.core_engine.proofs.Telling.{between_there}
use Rattle.core_engine.proofs.putting.step_entry.Goals as goal

pub standing-standing-requires : goal.standing-standing-requires
standing-standing-requires c =
    record { between = between_there c.args.queue.now c.args.place c.index-queue-place.result c.requires.numbers c.requires.place c.index-queue-place.is }

pub returns : goal.returns
returns c =
    record {
      told =
          step_told (settings_of c.args.settings) c.args.place c.number-update.result c.args.attempt c.args.committed c.args.writes c.args.causes c.args.queue.now c.index-queue-place.result c.standing-standing.result
          c.requires.numbers c.requires.place c.index-queue-place.is c.number-update.ensures.number c.requires.committed c.standing-standing.ensures.standing;
    }
