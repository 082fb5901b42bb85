use Rattle.def_chase.proofs.WalkEnds.{unifier_ends}
use Rattle.def_chase.proofs.laws.unifier_ends_walks.Goals as goal

pub returns : goal.returns
returns c = unifier_ends
