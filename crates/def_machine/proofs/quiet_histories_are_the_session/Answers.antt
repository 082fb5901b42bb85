use Rattle.def_machine.specs.Small.{small}
use Rattle.def_machine.proofs.Sessions.{quiet_law}
use Rattle.def_machine.proofs.SmallLaws.{small_laws}
use Rattle.def_machine.proofs.quiet_histories_are_the_session.Goals as goal

pub returns : goal.returns
returns c = λ budget some. quiet_law (small budget) (small_laws budget some)
