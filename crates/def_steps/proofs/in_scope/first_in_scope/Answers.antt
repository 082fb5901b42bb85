use Rattle.def_steps.proofs.Least.{first_in_scope}
use Rattle.def_steps.proofs.in_scope.first_in_scope.Goals as goal

pub returns : goal.returns
returns c = first_in_scope
