use Rattle.std.proofs.Common.{sym}
use Rattle.def_machine.proofs.Stamped.{stamp_law}
use Rattle.def_steps.specs.Chase.{caused, caused_chase}
use Rattle.def_steps.proofs.ChaseLaws.{chase_laws}
use Rattle.def_history.proofs.laws.untouched_values_stay.Goals as goal

pub returns : goal.returns
returns c = λ ms budget some. stamp_law (caused_chase ms budget) (chase_laws caused ms budget some) (λ p D E h. record { sorted = h.also; also = h.sorted; same = λ t e. sym (h.same t e) })
