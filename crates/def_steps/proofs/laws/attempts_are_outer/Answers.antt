use Rattle.def_steps.proofs.ShiftedRuns.{attempts_are_outer}
use Rattle.def_steps.proofs.laws.attempts_are_outer.Goals as goal

pub returns : goal.returns
returns c = attempts_are_outer
