use Rattle.audit_updates.specs.Settings.{settings_of}
use Rattle.audit_replay.proofs.Placing.{standing_placed}
use Rattle.audit_replay.proofs.Restarting.{stands_placed}
use Rattle.audit_replay.proofs.places.standing_at.Goals as goal

pub standing-requires : goal.standing-requires
standing-requires c = record { between = (stands_placed c.args.updates.now c.args.place c.index-updates-place.result c.requires.numbers c.requires.within c.index-updates-place.is).between }

pub returns : goal.returns
returns c = record {
  standing =
      standing_placed (settings_of c.args.settings) c.args.updates.now c.args.place c.number.result c.committed.result c.index-updates-place.result c.standing.result c.requires.numbers c.requires.within c.index-updates-place.is
      c.number.ensures.number c.committed.ensures.committed c.standing.ensures.standing;
}
