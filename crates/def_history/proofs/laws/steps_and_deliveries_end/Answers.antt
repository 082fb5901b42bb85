use Rattle.def_machine.proofs.Working.{work_law}
use Rattle.def_steps.specs.Chase.{caused, caused_chase}
use Rattle.def_steps.proofs.ChaseLaws.{chase_laws}
use Rattle.def_history.proofs.laws.steps_and_deliveries_end.Goals as goal

pub returns : goal.returns
returns c = λ ms budget some. work_law (caused_chase ms budget) (chase_laws caused ms budget some)
