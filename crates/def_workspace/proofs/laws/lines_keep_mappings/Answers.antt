use Rattle.def_workspace.proofs.Holding.{lines_keep}
use Rattle.def_workspace.proofs.laws.lines_keep_mappings.Goals as goal

pub returns : goal.returns
returns c = lines_keep
