use Rattle.def_steps.specs.Chase.{caused, caused_chase}
use Rattle.def_steps.proofs.ChaseLaws.{chase_laws}
use Rattle.def_record.proofs.Giving.{given_law}
use Rattle.def_record.proofs.laws.tickets_tell_their_state.Goals as goal

pub returns : goal.returns
returns c = λ ms budget some. given_law (caused_chase ms budget) (chase_laws caused ms budget some)
