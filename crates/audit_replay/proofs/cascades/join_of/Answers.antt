use Rattle.std.proofs.Common.{map, rules}
use Rattle.base_types.specs.Meanings.{rule_of}
use Rattle.audit_updates.specs.Settings.{deps_of}
use Rattle.audit_replay.specs.Causes.{readers_in}
use Rattle.audit_replay.specs.Levels.{top}
use Rattle.audit_replay.proofs.Found.{join_named, join_not_live, join_live}
use Rattle.audit_replay.proofs.cascades.join_of.Goals as goal

pub returns-then-is_named : goal.returns-then-is_named
returns-then-is_named c = record {
  join = join_named (map rule_of c.args.scene.mappings.now.items) (deps_of c.args.scene.deps) c.args.scene.committed (readers_in c.args.firsts.now.items) (top c.args.levels.now) c.args.losses.now c.args.audited.now c.number-reader.result c.is_named.result c.number-reader.ensures.number c.is_named.ensures.named (search rules);
}

pub returns-then-not-is_live : goal.returns-then-not-is_live
returns-then-not-is_live c = record {
  join = join_not_live (map rule_of c.args.scene.mappings.now.items) (deps_of c.args.scene.deps) c.args.scene.committed (readers_in c.args.firsts.now.items) (top c.args.levels.now) c.args.losses.now c.args.audited.now c.number-reader.result c.is_live.result c.number-reader.ensures.number c.is_live.ensures.live (search rules);
}

pub returns : goal.returns
returns c = record {
  join =
      join_live (map rule_of c.args.scene.mappings.now.items) (deps_of c.args.scene.deps) c.args.scene.committed (readers_in c.args.firsts.now.items) (top c.args.levels.now) c.args.losses.now c.args.audited.now c.number-reader.result c.is_named.result c.is_live.result
      c.dependence_by-cause.result c.in_ok-read.read c.number-reader.ensures.number c.is_named.ensures.named (search rules) c.is_live.ensures.live (search rules) c.in_ok-read.ensures.first c.dependence_by-cause.ensures.dependence;
}
