use Rattle.run_drill.proofs.Valid.{drilled_valid, drilled_met}
use Rattle.run_drill.proofs.laws.drills_are_sessions.Goals as goal

pub returns-clause-valid : goal.returns-clause-valid
returns-clause-valid c = drilled_valid c.closure_decides.ensures.cycles

pub returns-clause-met : goal.returns-clause-met
returns-clause-met c = drilled_met
