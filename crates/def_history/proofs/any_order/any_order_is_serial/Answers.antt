use Rattle.def_history.proofs.Theorem.{any_order}
use Rattle.def_history.proofs.any_order.any_order_is_serial.Goals as goal

pub returns : goal.returns
returns c = any_order
