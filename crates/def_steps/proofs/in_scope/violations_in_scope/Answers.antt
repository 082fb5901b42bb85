use Rattle.def_steps.proofs.Least.{scopes_decide}
use Rattle.def_steps.proofs.in_scope.violations_in_scope.Goals as goal

pub returns : goal.returns
returns c = scopes_decide
