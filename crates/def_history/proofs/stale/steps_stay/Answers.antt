use Rattle.std.proofs.Common.{sym}
use Rattle.def_steps.specs.Chase.{caused, caused_chase}
use Rattle.def_steps.proofs.ChaseLaws.{chase_laws}
use Rattle.def_history.proofs.Staying.{stays_law}
use Rattle.def_history.proofs.stale.steps_stay.Goals as goal

pub returns : goal.returns
returns c = λ ms budget some. stays_law (caused_chase ms budget) (chase_laws caused ms budget some) (λ p D E h. record { sorted = h.also; also = h.sorted; same = λ t e. sym (h.same t e) })
