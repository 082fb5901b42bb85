use Rattle.def_machine.specs.Small.{small}
use Rattle.def_machine.proofs.Theorem.{history_law}
use Rattle.def_machine.proofs.SmallLaws.{small_laws}
use Rattle.def_machine.proofs.histories_are_serial.Goals as goal

pub returns : goal.returns
returns c = λ budget some. history_law (small budget) (small_laws budget some)
