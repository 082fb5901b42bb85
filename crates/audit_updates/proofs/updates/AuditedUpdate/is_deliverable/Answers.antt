use Rattle.std.proofs.Common.{◌∙◌, ap}
use Rattle.def_machine.specs.Standings.{is_pending}
use Rattle.audit_updates.proofs.Deciding.{both, neither}
use Rattle.audit_updates.proofs.updates.AuditedUpdate.is_deliverable.Goals as goal

pub returns-then-pending : goal.returns-then-pending
returns-then-pending c = record { deliverable = λ ms B. both c.is_pending-pending.result _ _ _ c.if-pending.true (c.is_pending-pending.ensures.pending ∙ ap is_pending (c.standing.ensures.standing ms B)) c.has_recorded-recorded.ensures.recorded }

pub returns-else-pending : goal.returns-else-pending
returns-else-pending c = record { deliverable = λ ms B. neither c.is_pending-pending.result _ _ c.if-pending.false (c.is_pending-pending.ensures.pending ∙ ap is_pending (c.standing.ensures.standing ms B)) }
