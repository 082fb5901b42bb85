use Rattle.def_workspace.proofs.Naming.{runs_keep_places}
use Rattle.def_workspace.proofs.laws.runs_keep_places.Goals as goal

pub returns : goal.returns
returns c = runs_keep_places
