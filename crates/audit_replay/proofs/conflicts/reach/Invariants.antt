use Rattle.std.proofs.Common.{◌≡◌, ◌≤◌, map, drop}
use Rattle.base_types.specs.Meanings.{rule_of}
use Rattle.audit_replay.specs.Causes.{AreUnmet}
use Rattle.audit_replay.proofs.conflicts.reach.Given as goal

abbrev pub invariant-updates : goal.invariant-updates
invariant-updates l = record {
  place : l.place ≡ l.audited-index;
  within : l.reach ≤ l.place;
  none : AreUnmet (map rule_of l.scene.mappings.now.items) l.scene.committed l.relations (drop l.place l.upper) → AreUnmet (map rule_of l.scene.mappings.now.items) l.scene.committed l.relations (drop l.reach l.upper);
}
