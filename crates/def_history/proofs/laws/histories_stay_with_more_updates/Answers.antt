use Rattle.def_machine.proofs.Recorded.{longer_law}
use Rattle.def_steps.specs.Chase.{caused_chase}
use Rattle.def_history.proofs.laws.histories_stay_with_more_updates.Goals as goal

pub returns : goal.returns
returns c = λ ms budget. longer_law (caused_chase ms budget)
