use Rattle.def_machine.proofs.Fewer.{deps_law}
use Rattle.def_steps.specs.Chase.{caused, caused_chase}
use Rattle.def_steps.proofs.ChaseLaws.{chase_laws}
use Rattle.def_history.proofs.laws.precise_restarts_are_coarse.Goals as goal

pub returns : goal.returns
returns c = λ ms budget some. deps_law (caused_chase ms budget) (chase_laws caused ms budget some)
