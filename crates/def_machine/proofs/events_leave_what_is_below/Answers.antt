use Rattle.def_machine.specs.Small.{small}
use Rattle.def_machine.proofs.Local.{local_law}
use Rattle.def_machine.proofs.SmallLaws.{small_laws}
use Rattle.def_machine.proofs.events_leave_what_is_below.Goals as goal

pub returns : goal.returns
returns c = λ budget some. local_law (small budget) (small_laws budget some)
