use Rattle.def_machine.proofs.Recorded.{recorded_law}
use Rattle.def_steps.specs.Chase.{caused_chase}
use Rattle.def_history.proofs.laws.histories_keep_the_session.Goals as goal

pub returns : goal.returns
returns c = λ ms budget. recorded_law (caused_chase ms budget)
