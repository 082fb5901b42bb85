use Rattle.def_steps.proofs.SerialHolding.{whole_rests}
use Rattle.def_steps.proofs.laws.whole_rests.Goals as goal

pub returns : goal.returns
returns c = whole_rests
