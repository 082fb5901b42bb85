use Rattle.std.proofs.Common.{refl}
use Rattle.def_workspace.proofs.laws.waiting_changes_nothing.Goals as goal

pub returns : goal.returns
returns c = λ w u gs r ps n. record { facts = refl; last = refl; names = refl; in_force = refl; gone = refl; order = refl }
