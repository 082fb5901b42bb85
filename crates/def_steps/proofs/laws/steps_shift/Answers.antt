use Rattle.def_steps.proofs.ShiftedSteps.{steps_shift}
use Rattle.def_steps.proofs.laws.steps_shift.Goals as goal

pub returns : goal.returns
returns c = steps_shift
