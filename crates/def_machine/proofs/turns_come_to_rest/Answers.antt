use Rattle.def_machine.specs.Small.{small}
use Rattle.def_machine.proofs.Simulations.{rest_law}
use Rattle.def_machine.proofs.SmallLaws.{small_laws}
use Rattle.def_machine.proofs.turns_come_to_rest.Goals as goal

pub returns : goal.returns
returns c = λ budget some. rest_law (small budget) (small_laws budget some)
