use Rattle.cmd_threads.proofs.Told.{printed}
use Rattle.cmd_threads.proofs.drills.summary_output.Goals as goal

pub returns : goal.returns
returns c = printed _ _ _ _ _ _ c.number.ensures.same c.ending_by.ensures c.in_ok-text.ensures.text
