use Rattle.std.proofs.Common.{map}
use Rattle.base_types.specs.Meanings.{rule_of}
use Rattle.audit_updates.specs.Settings.{deps_of}
use Rattle.audit_replay.specs.Levels.{top}
use Rattle.audit_replay.proofs.Preparing.{above_between, loss_there}
use Rattle.audit_replay.proofs.Restarting.{stands_placed}
use Rattle.audit_replay.proofs.withdrawing.prepare.Goals as goal

pub trail-trail-requires : goal.trail-trail-requires
trail-trail-requires c = record { between = (stands_placed c.args.updates.now c.args.place c.index-updates-place.result c.requires.numbers c.requires.within c.index-updates-place.is).between }

pub causes_of_loss-requires : goal.causes_of_loss-requires
causes_of_loss-requires c = record { between = above_between c.args.updates.now _ c.args.place c.index-updates-place.result c.requires.numbers c.requires.within c.index-updates-place.is c.above-upper.ensures.above }

pub returns : goal.returns
returns c = record {
  causes =
      loss_there (map rule_of c.args.mappings.now.items) (deps_of c.args.deps) c.args.before c.number-number.result c.args.updates.now c.above-upper.result.now c.args.place c.index-updates-place.result (top c.args.levels.now) c.trail-trail.result.now c.in_ok-causes.causes.items
      c.requires.numbers c.requires.within c.index-updates-place.is c.above-upper.ensures.above c.number-number.ensures.number c.trail-trail.ensures.trail c.in_ok-causes.ensures.causes;
  levels = c.in_ok-causes.ensures.levels;
}
