use Rattle.def_machine.proofs.Leading.{is_replay}
use Rattle.def_machine.proofs.replays_by_its_log.Goals as goal

pub returns : goal.returns
returns c = λ program. is_replay program
