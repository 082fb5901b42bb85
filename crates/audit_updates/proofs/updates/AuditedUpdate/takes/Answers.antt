use Rattle.std.proofs.Common.{◌∙◌, ap}
use Rattle.def_machine.specs.Standings.{is_paused}
use Rattle.audit_updates.proofs.Deciding.{both, neither}
use Rattle.audit_updates.proofs.updates.AuditedUpdate.takes.Goals as goal

pub returns-then-paused : goal.returns-then-paused
returns-then-paused c = record { takes = λ ms B. both c.is_paused-paused.result _ _ _ c.if-paused.true (c.is_paused-paused.ensures.paused ∙ ap is_paused (c.standing.ensures.standing ms B)) (c.fits-fits.ensures.fits ms B) }

pub returns-else-paused : goal.returns-else-paused
returns-else-paused c = record { takes = λ ms B. neither c.is_paused-paused.result _ _ c.if-paused.false (c.is_paused-paused.ensures.paused ∙ ap is_paused (c.standing.ensures.standing ms B)) }
