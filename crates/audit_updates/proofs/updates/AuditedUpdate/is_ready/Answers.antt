use Rattle.std.proofs.Common.{◌∙◌, ap}
use Rattle.def_machine.specs.Standings.{is_ready}
use Rattle.audit_updates.proofs.updates.AuditedUpdate.is_ready.Goals as goal

pub returns : goal.returns
returns c = record { ready = λ ms B. c.is_ready.ensures.ready ∙ ap is_ready (c.standing.ensures.standing ms B) }
