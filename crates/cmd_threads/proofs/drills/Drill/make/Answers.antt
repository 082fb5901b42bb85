use Rattle.std.proofs.lemmas.Result.{IfOk-weaker}
use Rattle.cmd_threads.proofs.Told.{made}
use Rattle.cmd_threads.proofs.drills.Drill.make.Goals as goal

pub returns : goal.returns
returns g c = IfOk-weaker c.summary_output.result _ _ (λ output h. made _ _ _ _ _ c.in_ok-told.ensures h) c.summary_output.ensures
