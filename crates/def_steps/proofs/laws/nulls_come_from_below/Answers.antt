use Rattle.def_steps.proofs.Origins.{nulls_come_from}
use Rattle.def_steps.proofs.laws.nulls_come_from_below.Goals as goal

pub returns : goal.returns
returns c = nulls_come_from
