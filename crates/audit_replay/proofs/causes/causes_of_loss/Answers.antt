use Rattle.std.proofs.Common.{map}
use Rattle.base_types.specs.Meanings.{change_of, rule_of}
use Rattle.audit_updates.specs.Settings.{deps_of}
use Rattle.audit_replay.specs.Levels.{top}
use Rattle.audit_replay.proofs.Causing.{of_loss}
use Rattle.audit_replay.proofs.causes.causes_of_loss.Goals as goal

pub returns : goal.returns
returns c = record {
  causes =
      of_loss (map rule_of c.args.scene.mappings.now.items) (deps_of c.args.scene.deps) c.args.scene.committed c.args.number (map change_of c.args.trail.now) (top c.args.levels.now) c.args.upper.now c.new-none.result.items c.in_ok-causes.causes.items c.none-losses.result c.lose.new.self
      c.new-none.ensures.empty c.none-losses.ensures.none c.none-losses.ensures.told c.in_ok-lose.ensures.lost c.in_ok-causes.ensures.causes;
  levels = c.in_ok-causes.ensures.levels;
}
