use Rattle.std.proofs.Common.{sym}
use Rattle.def_machine.specs.Small.{small}
use Rattle.def_machine.proofs.Stamped.{stamp_law}
use Rattle.def_machine.proofs.SmallLaws.{small_laws}
use Rattle.def_machine.proofs.untouched_values_stay.Goals as goal

pub returns : goal.returns
returns c = λ budget some. stamp_law (small budget) (small_laws budget some) (λ p D E h. sym h)
