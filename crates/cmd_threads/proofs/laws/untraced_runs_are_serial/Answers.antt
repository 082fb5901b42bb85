use Rattle.cmd_threads.proofs.Outputs.{untraced}
use Rattle.cmd_threads.proofs.laws.untraced_runs_are_serial.Goals as goal

pub returns : goal.returns
returns c = untraced
