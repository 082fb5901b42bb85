use Rattle.def_history.proofs.Keeping.{histories_are_kept}
use Rattle.def_history.proofs.cores.histories_are_kept.Goals as goal

pub returns : goal.returns
returns c = histories_are_kept
