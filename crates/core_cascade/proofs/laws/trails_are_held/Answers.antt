use Rattle.core_cascade.proofs.Holding.{trails_held}
use Rattle.core_cascade.proofs.laws.trails_are_held.Goals as goal

pub returns : goal.returns
returns c = trails_held
