use Rattle.def_steps.proofs.SerialHolding.{hold_throughout}
use Rattle.def_steps.proofs.laws.mappings_hold_throughout.Goals as goal

pub returns : goal.returns
returns c = hold_throughout
