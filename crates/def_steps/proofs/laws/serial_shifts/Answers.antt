use Rattle.def_steps.proofs.ShiftedRuns.{serial_shifts}
use Rattle.def_steps.proofs.laws.serial_shifts.Goals as goal

pub returns : goal.returns
returns c = serial_shifts
