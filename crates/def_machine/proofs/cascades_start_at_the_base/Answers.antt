use Rattle.def_machine.specs.Small.{small}
use Rattle.def_machine.proofs.Calls.{call_law}
use Rattle.def_machine.proofs.SmallLaws.{small_laws}
use Rattle.def_machine.proofs.cascades_start_at_the_base.Goals as goal

pub returns : goal.returns
returns c = λ budget some. call_law (small budget) (small_laws budget some)
