use Rattle.def_machine.specs.Small.{small}
use Rattle.def_machine.proofs.Working.{work_law}
use Rattle.def_machine.proofs.SmallLaws.{small_laws}
use Rattle.def_machine.proofs.steps_and_deliveries_end.Goals as goal

pub returns : goal.returns
returns c = λ budget some. work_law (small budget) (small_laws budget some)
