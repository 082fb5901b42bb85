use Rattle.std.proofs.Common.{ℕ, map, drop}
use Rattle.base_types.specs.Meanings.{rule_of}
use Rattle.audit_updates.specs.Updates.{AreFrom, updates_of}
use Rattle.audit_replay.specs.Levels.{RisesFrom, top}
use Rattle.audit_replay.specs.Met.{met_conflicts}
use Rattle.audit_replay.specs.Places.{AreBetween}
use Rattle.audit_replay.proofs.Turns.{ConflictsLeft}
use Rattle.audit_replay.proofs.conflicts.conflicts_above.Given as goal

abbrev pub invariant-updates : goal.invariant-updates
invariant-updates l = record {
  risen : RisesFrom l.fn.levels l.levels;
  between : AreBetween (drop l.audited-index l.upper);
  left : (B n : ℕ) → AreFrom n l.upper
      → ConflictsLeft (map rule_of l.scene.mappings.now.items) l.scene.committed l.writer l.relations B (met_conflicts (map rule_of l.scene.mappings.now.items) B l.scene.committed l.writer l.relations (top l.fn.levels) n (updates_of (map rule_of l.scene.mappings.now.items) B l.upper))
      (top l.levels) (drop l.audited-index l.upper) l.causes.items;
}
