use Rattle.def_chase.proofs.Coarse.{coarse_law}
use Rattle.def_chase.proofs.laws.mentions_decide.Goals as goal

pub returns : goal.returns
returns c = coarse_law
