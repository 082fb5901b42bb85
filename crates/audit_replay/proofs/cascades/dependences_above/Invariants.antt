use Rattle.std.proofs.Common.{ℕ, map, drop}
use Rattle.base_types.specs.Meanings.{rule_of}
use Rattle.audit_updates.specs.Updates.{AreFrom, updates_of}
use Rattle.audit_updates.specs.Settings.{deps_of}
use Rattle.audit_replay.specs.Causes.{AreTold, members_of, readers_in}
use Rattle.audit_replay.specs.Levels.{RisesFrom, top}
use Rattle.audit_replay.specs.Met.{met_cascade}
use Rattle.audit_replay.specs.Places.{AreBetween}
use Rattle.audit_replay.proofs.Turns.{DependencesLeft}
use Rattle.audit_replay.proofs.cascades.dependences_above.Given as goal

abbrev pub invariant-updates : goal.invariant-updates
invariant-updates l = record {
  told : AreTold l.fn.losses → AreTold l.losses;
  risen : RisesFrom l.fn.levels l.levels;
  between : AreBetween (drop l.audited-index l.upper);
  left : (B n : ℕ) → AreTold l.fn.losses → AreFrom n l.upper
      → DependencesLeft (map rule_of l.scene.mappings.now.items) (deps_of l.scene.deps) l.scene.committed (readers_in l.firsts.items) B
      (met_cascade (map rule_of l.scene.mappings.now.items) B (deps_of l.scene.deps) l.scene.committed (readers_in l.firsts.items) (top l.fn.levels) (members_of (map rule_of l.scene.mappings.now.items) B l.fn.losses.members.items) n (updates_of (map rule_of l.scene.mappings.now.items) B l.upper))
      (top l.levels) l.losses (drop l.audited-index l.upper) l.causes.items;
}
