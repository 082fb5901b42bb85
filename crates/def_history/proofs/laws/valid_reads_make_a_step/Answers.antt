use Rattle.def_machine.proofs.Replay.{plan_law}
use Rattle.def_steps.specs.Chase.{caused, caused_chase}
use Rattle.def_steps.proofs.ChaseLaws.{chase_laws}
use Rattle.def_history.proofs.laws.valid_reads_make_a_step.Goals as goal

pub returns : goal.returns
returns c = λ ms budget some. plan_law (caused_chase ms budget) (chase_laws caused ms budget some)
