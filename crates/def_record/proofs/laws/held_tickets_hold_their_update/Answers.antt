use Rattle.def_steps.specs.Chase.{caused, caused_chase}
use Rattle.def_steps.proofs.ChaseLaws.{chase_laws}
use Rattle.def_record.proofs.Holding.{held_law}
use Rattle.def_record.proofs.laws.held_tickets_hold_their_update.Goals as goal

pub returns : goal.returns
returns c = λ ms budget some. held_law (caused_chase ms budget) (chase_laws caused ms budget some)
