use Rattle.def_steps.proofs.Lacks.{steps_replay}
use Rattle.def_steps.proofs.laws.steps_replay.Goals as goal

pub returns : goal.returns
returns c = steps_replay
