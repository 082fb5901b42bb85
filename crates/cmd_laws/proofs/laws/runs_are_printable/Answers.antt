use Rattle.cmd_laws.proofs.Judged.{run_printable}
use Rattle.cmd_laws.proofs.laws.runs_are_printable.Goals as goal

pub returns : goal.returns
returns c = run_printable
