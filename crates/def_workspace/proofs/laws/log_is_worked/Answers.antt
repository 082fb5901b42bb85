use Rattle.std.proofs.Common.{refl}
use Rattle.def_workspace.proofs.laws.log_is_worked.Goals as goal

pub returns : goal.returns
returns c = record { asks = refl; waits = refl; answered = refl; stands = refl; undone = refl; redone = refl }
