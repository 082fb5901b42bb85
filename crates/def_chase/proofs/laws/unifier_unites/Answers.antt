use Rattle.def_chase.proofs.Unified.{unifier_laws}
use Rattle.def_chase.proofs.laws.unifier_unites.Goals as goal

pub returns : goal.returns
returns c = unifier_laws
