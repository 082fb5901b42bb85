use Rattle.std.proofs.Common.{refl}
use Rattle.run_drill.proofs.laws.first_draws.Goals as goal

pub returns : goal.returns
returns c = record { state = refl; upper = refl; seven = refl; highest = refl }
