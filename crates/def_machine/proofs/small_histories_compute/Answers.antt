use Rattle.def_machine.proofs.SmallRows.{small_rows}
use Rattle.def_machine.proofs.small_histories_compute.Goals as goal

pub returns : goal.returns
returns c = small_rows
