use Rattle.audit_updates.specs.Settings.{settings_of}
use Rattle.audit_replay.proofs.Placing.{step_told}
use Rattle.audit_replay.proofs.stepping.step_entry.Goals as goal

pub returns : goal.returns
returns c = record {
  told =
      step_told (settings_of c.args.settings) c.args.place c.number.result c.args.attempt c.committed.result c.args.writes c.args.causes c.args.updates.now c.index-updates-place.result c.standing_at.result c.requires.numbers c.requires.within
      c.index-updates-place.is c.number.ensures.number c.committed.ensures.committed c.standing_at.ensures.standing;
}
