use Rattle.def_workspace.proofs.Holding.{replays_keep}
use Rattle.def_workspace.proofs.laws.replays_keep_mappings.Goals as goal

pub returns : goal.returns
returns c = replays_keep
