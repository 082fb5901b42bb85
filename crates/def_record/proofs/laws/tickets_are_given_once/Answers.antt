use Rattle.def_steps.specs.Chase.{caused, caused_chase}
use Rattle.def_steps.proofs.ChaseLaws.{chase_laws}
use Rattle.def_record.proofs.Parting.{apart_law}
use Rattle.def_record.proofs.laws.tickets_are_given_once.Goals as goal

pub returns : goal.returns
returns c = λ ms budget some. apart_law (caused_chase ms budget) (chase_laws caused ms budget some)
