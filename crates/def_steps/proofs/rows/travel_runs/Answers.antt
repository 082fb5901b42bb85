use Rattle.std.proofs.Common.{refl}
use Rattle.def_steps.proofs.rows.travel_runs.Goals as goal

pub returns : goal.returns
returns c = refl
