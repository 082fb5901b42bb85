use Rattle.std.proofs.Common.{map, rules}
use Rattle.base_types.specs.Meanings.{rule_of}
use Rattle.audit_updates.specs.Settings.{deps_of}
use Rattle.audit_replay.specs.Levels.{top}
use Rattle.audit_replay.proofs.Causing.{step_of_loss, step_of_writes}
use Rattle.audit_replay.proofs.stepping.causes_of_step.Goals as goal

pub returns-then-has_spent : goal.returns-then-has_spent
returns-then-has_spent c = record {
  causes =
      step_of_loss (map rule_of c.args.scene.mappings.now.items) (deps_of c.args.scene.deps) c.args.scene.committed c.number-number.result c.args.audited.now c.args.plan.now c.trail-trail.result.now (top c.args.levels.now) c.args.upper.now c.in_ok-causes.causes.items
      c.has_spent.result c.number-number.ensures.number c.has_spent.ensures.spent (search rules) c.trail-trail.ensures.trail c.in_ok-causes.ensures.causes;
  levels = c.in_ok-causes.ensures.levels;
}

pub returns : goal.returns
returns c = record {
  causes =
      step_of_writes (map rule_of c.args.scene.mappings.now.items) (deps_of c.args.scene.deps) c.args.scene.committed c.number-number.result c.args.audited.now c.args.plan.now c.shown-trail.result.now c.written-writes.result.now (top c.args.levels.now) c.args.upper.now
      c.in_ok-causes-2.causes.items c.has_spent.result c.number-number.ensures.number c.has_spent.ensures.spent (search rules) c.shown-trail.ensures.shown c.written-writes.ensures.written c.in_ok-causes-2.ensures.causes;
  levels = c.in_ok-causes-2.ensures.levels;
}
