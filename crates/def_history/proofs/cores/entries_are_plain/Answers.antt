use Rattle.def_history.proofs.Keeping.{entries_are_plain}
use Rattle.def_history.proofs.cores.entries_are_plain.Goals as goal

pub returns : goal.returns
returns c = entries_are_plain
