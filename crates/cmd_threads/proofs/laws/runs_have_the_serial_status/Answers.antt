use Rattle.cmd_threads.proofs.Outputs.{one_status}
use Rattle.cmd_threads.proofs.laws.runs_have_the_serial_status.Goals as goal

pub returns : goal.returns
returns c = one_status
