use Rattle.def_chase.proofs.Scopes.{caused_is_all}
use Rattle.def_chase.proofs.laws.caused_is_all.Goals as goal

pub returns : goal.returns
returns c = caused_is_all
