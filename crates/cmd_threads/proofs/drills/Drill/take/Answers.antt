use Rattle.std.proofs.lemmas.Result.{IfOk-weaker}
use Rattle.cmd_threads.proofs.Told.{tells}
use Rattle.cmd_threads.proofs.drills.Drill.take.Goals as goal

pub returns : goal.returns
returns g c = IfOk-weaker c.result.result _ _ (λ told h. tells _ _ _ _ _ h c.in_ok-run.ensures.budget c.in_ok-run.ensures.session) c.result.ensures.serial
