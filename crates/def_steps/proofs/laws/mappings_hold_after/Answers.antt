use Rattle.def_steps.proofs.SerialHolding.{hold_after}
use Rattle.def_steps.proofs.laws.mappings_hold_after.Goals as goal

pub returns : goal.returns
returns c = hold_after
