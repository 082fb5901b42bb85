use Rattle.def_machine.specs.Small.{small}
use Rattle.def_machine.proofs.Recorded.{recorded_law}
use Rattle.def_machine.proofs.histories_keep_the_session.Goals as goal

pub returns : goal.returns
returns c = λ budget. recorded_law (small budget)
