use Rattle.work_stale.proofs.Doing.{attempts_do}
use Rattle.work_stale.proofs.laws.ready_attempts_do_their_update.Goals as goal

pub returns : goal.returns
returns c = attempts_do
