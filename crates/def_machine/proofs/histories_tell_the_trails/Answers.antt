use Rattle.def_machine.specs.Small.{small}
use Rattle.def_machine.proofs.Told.{trail_law}
use Rattle.def_machine.proofs.SmallLaws.{small_laws}
use Rattle.def_machine.proofs.histories_tell_the_trails.Goals as goal

pub returns : goal.returns
returns c = λ budget some. trail_law (small budget) (small_laws budget some)
