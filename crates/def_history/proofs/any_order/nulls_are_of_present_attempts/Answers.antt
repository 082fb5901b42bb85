use Rattle.def_history.proofs.Nulls.{nulls_are_present}
use Rattle.def_history.proofs.any_order.nulls_are_of_present_attempts.Goals as goal

pub returns : goal.returns
returns c = nulls_are_present
