use Rattle.std.proofs.Common.{◌∙◌, map}
use Rattle.base_types.specs.Meanings.{rule_of}
use Rattle.audit_replay.specs.Levels.{top}
use Rattle.audit_replay.proofs.Risen.{risen_above, sunk_back}
use Rattle.audit_replay.proofs.Turns.{between_taken, from_taken, reached_all}
use Rattle.audit_replay.proofs.conflicts.conflicts.Goals as goal

pub conflicts_above-requires : goal.conflicts_above-requires
conflicts_above-requires c = record { between = between_taken c.reach-reach.result c.args.upper.now c.requires.between }

pub sink_to-requires : goal.sink_to-requires
sink_to-requires c = record { above = risen_above _ _ c.height-height.result c.in_ok-causes.ensures.levels c.height-height.ensures.height }

pub returns : goal.returns
returns c = record {
  causes =
      λ B n from. c.in_ok-causes.ensures.causes B n (from_taken n c.reach-reach.result c.args.upper.now from)
      ∙ reached_all (map rule_of c.args.scene.mappings.now.items) c.args.scene.committed c.args.writer c.args.relations.now B n c.reach-reach.result (top c.args.levels.now) c.args.upper.now from c.reach-reach.ensures.none;
  levels = sunk_back _ _ _ c.height-height.result c.in_ok-causes.ensures.levels c.height-height.ensures.height c.in_ok-sink_to.ensures.sunk;
}
