use Rattle.def_steps.proofs.Scopes.{caused_is_every}
use Rattle.def_steps.proofs.laws.caused_scope_is_full.Goals as goal

pub returns : goal.returns
returns c = caused_is_every
