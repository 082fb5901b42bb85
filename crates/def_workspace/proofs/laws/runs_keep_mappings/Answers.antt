use Rattle.def_workspace.proofs.Holding.{runs_keep}
use Rattle.def_workspace.proofs.laws.runs_keep_mappings.Goals as goal

pub returns : goal.returns
returns c = runs_keep
