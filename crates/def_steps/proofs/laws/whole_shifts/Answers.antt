use Rattle.def_steps.proofs.ShiftedRuns.{whole_shifts}
use Rattle.def_steps.proofs.laws.whole_shifts.Goals as goal

pub returns : goal.returns
returns c = whole_shifts
