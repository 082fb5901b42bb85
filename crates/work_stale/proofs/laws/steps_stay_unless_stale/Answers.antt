use Rattle.work_stale.proofs.Staleness.{stay_unless_stale}
use Rattle.work_stale.proofs.laws.steps_stay_unless_stale.Goals as goal

pub returns : goal.returns
returns c = stay_unless_stale
