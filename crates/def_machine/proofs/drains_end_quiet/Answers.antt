use Rattle.def_machine.specs.Small.{small}
use Rattle.def_machine.proofs.Drained.{drain_law}
use Rattle.def_machine.proofs.SmallLaws.{small_laws}
use Rattle.def_machine.proofs.drains_end_quiet.Goals as goal

pub returns : goal.returns
returns c = λ budget some. drain_law (small budget) (small_laws budget some)
