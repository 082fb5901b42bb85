use Rattle.std.proofs.Common.{refl}
use Rattle.std.specs.Fmt.{digits}
use Rattle.run_drill.proofs.worked.worked_summary.Goals as goal

pub returns : goal.returns
unfolding digits
returns c = refl
