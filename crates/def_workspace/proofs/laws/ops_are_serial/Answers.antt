use Rattle.def_workspace.proofs.Serially.{ops_are_serial}
use Rattle.def_workspace.proofs.laws.ops_are_serial.Goals as goal

pub returns : goal.returns
returns c = ops_are_serial
