use Rattle.work_stale.proofs.Telling.{entries_tell}
use Rattle.work_stale.proofs.laws.entries_tell_the_trails.Goals as goal

pub returns : goal.returns
returns c = entries_tell
