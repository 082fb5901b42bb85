use Rattle.def_machine.proofs.SmallSimulation.{small_sessions}
use Rattle.def_machine.proofs.small_sessions_have_one_result.Goals as goal

pub returns : goal.returns
returns c = small_sessions
