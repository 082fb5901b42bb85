use Rattle.std.proofs.Common.{ℕ, ◌+◌, drop, Option}
use Rattle.audit_updates.specs.Settings.{settings_of}
use Rattle.audit_updates.specs.Updates.{AreFrom}
use Rattle.audit_updates.specs.Order.{IsFirstReady}
use Rattle.audit_updates.proofs.order.first_ready.Given as goal

abbrev pub invariant-loop-audited : goal.invariant-loop-audited
invariant-loop-audited l = record {
  from : AreFrom (l.audited-index + 1) (drop l.audited-index l.updates);
  left : (o : Option ℕ) → IsFirstReady (settings_of l.settings) l.committed (l.audited-index + 1) (drop l.audited-index l.updates) o → IsFirstReady (settings_of l.settings) l.committed 1 l.updates o;
}
