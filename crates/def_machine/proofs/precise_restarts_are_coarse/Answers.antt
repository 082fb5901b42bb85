use Rattle.def_machine.specs.Small.{small}
use Rattle.def_machine.proofs.Fewer.{deps_law}
use Rattle.def_machine.proofs.SmallLaws.{small_laws}
use Rattle.def_machine.proofs.precise_restarts_are_coarse.Goals as goal

pub returns : goal.returns
returns c = λ budget some. deps_law (small budget) (small_laws budget some)
