use Rattle.def_machine.proofs.Local.{local_law}
use Rattle.def_steps.specs.Chase.{caused, caused_chase}
use Rattle.def_steps.proofs.ChaseLaws.{chase_laws}
use Rattle.def_history.proofs.laws.events_leave_what_is_below.Goals as goal

pub returns : goal.returns
returns c = λ ms budget some. local_law (caused_chase ms budget) (chase_laws caused ms budget some)
