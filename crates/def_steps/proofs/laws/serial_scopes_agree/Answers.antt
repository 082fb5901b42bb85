use Rattle.def_steps.proofs.SerialHolding.{serial_scopes_agree}
use Rattle.def_steps.proofs.laws.serial_scopes_agree.Goals as goal

pub returns : goal.returns
returns c = serial_scopes_agree
