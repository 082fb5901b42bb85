use Rattle.def_machine.specs.Small.{small}
use Rattle.def_machine.proofs.Recorded.{longer_law}
use Rattle.def_machine.proofs.histories_stay_with_more_updates.Goals as goal

pub returns : goal.returns
returns c = λ budget. longer_law (small budget)
