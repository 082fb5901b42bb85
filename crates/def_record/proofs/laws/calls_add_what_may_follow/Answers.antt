use Rattle.def_steps.specs.Chase.{caused, caused_chase}
use Rattle.def_steps.proofs.ChaseLaws.{chase_laws}
use Rattle.def_record.proofs.Calling.{call_law}
use Rattle.def_record.proofs.laws.calls_add_what_may_follow.Goals as goal

pub returns : goal.returns
returns c = λ ms budget some. call_law (caused_chase ms budget) (chase_laws caused ms budget some)
