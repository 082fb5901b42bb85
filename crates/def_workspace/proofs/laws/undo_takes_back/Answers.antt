use Rattle.def_workspace.proofs.Undoing.{undone_at_once}
use Rattle.def_workspace.proofs.laws.undo_takes_back.Goals as goal

pub returns : goal.returns
returns c = undone_at_once
