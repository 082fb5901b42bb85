use Rattle.std.proofs.Common.{List, map, subst, rules}
use Rattle.base_types.specs.Meanings.{rule_of}
use Rattle.def_chase.specs.Values.{Fact}
use Rattle.audit_replay.specs.Changes.{IsFirstChange}
use Rattle.audit_replay.specs.Levels.{top}
use Rattle.audit_replay.proofs.Found.{conflict_not_live, conflict_live}
use Rattle.audit_replay.proofs.conflicts.conflict_of.Goals as goal

pub returns-then-not-is_live : goal.returns-then-not-is_live
returns-then-not-is_live c = record {
  cause = conflict_not_live (map rule_of c.args.scene.mappings.now.items) c.args.scene.committed c.args.writer c.args.relations.now (top c.args.levels.now) c.args.audited.now c.number-reader.result c.is_live.result c.number-reader.ensures.number c.is_live.ensures.live (search rules);
}

pub returns : goal.returns
returns c =
    let ms = map rule_of c.args.scene.mappings.now.items in record {
      cause =
          conflict_live ms c.args.scene.committed c.args.writer c.args.relations.now (top c.args.levels.now) c.args.audited.now c.number-reader.result c.is_live.result c.conflict_by-cause.result c.in_ok-change.change c.number-reader.ensures.number c.is_live.ensures.live (search rules)
          (subst (λ (D : List Fact). IsFirstChange ms c.args.relations.now D c.args.audited.now c.in_ok-change.change) c.facts-below.ensures.top c.in_ok-change.ensures.first) c.conflict_by-cause.ensures.conflict;
    }
