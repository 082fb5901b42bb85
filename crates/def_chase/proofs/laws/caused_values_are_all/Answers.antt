use Rattle.def_chase.proofs.Scopes.{caused_values}
use Rattle.def_chase.proofs.laws.caused_values_are_all.Goals as goal

pub returns : goal.returns
returns c = caused_values
