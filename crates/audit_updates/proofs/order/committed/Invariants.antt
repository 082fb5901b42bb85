use Rattle.std.proofs.Common.{◌≡◌, ℕ, suc, ◌+◌, List, drop}
use Rattle.def_machine.specs.Updates.{committed}
use Rattle.def_chase.specs.Mappings.{Rule}
use Rattle.def_steps.specs.Chase.{caused_chase}
use Rattle.audit_updates.specs.Updates.{updates_of, AreFrom}
use Rattle.audit_updates.proofs.order.committed.Given as goal

abbrev pub invariant-loop-audited : goal.invariant-loop-audited
invariant-loop-audited l = record {
  from : AreFrom (suc l.count) (drop l.audited-index l.updates);
  left : (ms : List Rule) (B : ℕ) → l.count + committed (caused_chase ms B) (updates_of ms B (drop l.audited-index l.updates)) ≡ committed (caused_chase ms B) (updates_of ms B l.updates);
}
