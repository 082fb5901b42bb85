use Rattle.audit_updates.proofs.Deciding.{stands}
use Rattle.audit_updates.proofs.updates.AuditedUpdate.standing.Goals as goal
use Rattle.def_steps.specs.Attempts.{outcome_in}

pub returns-in-None : goal.returns-in-None
returns-in-None c = record { standing = λ ms B. stands c.args.self.now.withdrawn (outcome_in c.args.self.now.program.attempt.phase) _ _ c.if-self.false c.in-None.ensures.ended (c.standing_going.ensures.standing ms B) }
