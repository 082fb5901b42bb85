use Rattle.def_machine.specs.Small.{small}
use Rattle.def_machine.proofs.Caused.{cause_law}
use Rattle.def_machine.proofs.SmallLaws.{small_laws}
use Rattle.def_machine.proofs.aborts_have_causes.Goals as goal

pub returns : goal.returns
returns c = λ budget some. cause_law (small budget) (small_laws budget some)
