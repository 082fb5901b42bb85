use Rattle.std.proofs.Common.{◌≡◌, [], map, rules}
use Rattle.base_types.specs.Meanings.{rule_of}
use Rattle.audit_updates.specs.Settings.{deps_of}
use Rattle.audit_replay.specs.Causes.{readers_in}
use Rattle.audit_replay.specs.Levels.{top}
use Rattle.audit_replay.proofs.Causing.{on_none, on_some}
use Rattle.audit_replay.proofs.causes.dependences_on.Goals as goal

pub returns-then-is_empty : goal.returns-then-is_empty
returns-then-is_empty c =
    let none : c.args.firsts.now.items ≡ [] = search rules in record {
      causes = on_none (map rule_of c.args.scene.mappings.now.items) (deps_of c.args.scene.deps) c.args.scene.committed (top c.args.levels.now) c.args.upper.now c.args.firsts.now.items c.new.result.items none c.new.ensures.empty;
      levels = search rules;
    }

pub returns : goal.returns
returns c = record {
  causes = on_some (map rule_of c.args.scene.mappings.now.items) (deps_of c.args.scene.deps) c.args.scene.committed (readers_in c.args.firsts.now.items) (top c.args.levels.now) c.args.upper.now c.in_ok-causes.causes.items c.none-losses.result c.none-losses.ensures.none c.none-losses.ensures.told c.in_ok-causes.ensures.causes;
  levels = c.in_ok-causes.ensures.levels;
}
