use Rattle.std.proofs.lemmas.Result.{IfOk-weaker}
use Rattle.cmd_threads.proofs.Told.{tells_drilled}
use Rattle.cmd_threads.proofs.drills.Drill.work.Goals as goal

pub take-requires-clause-valid : goal.take-requires-clause-valid
take-requires-clause-valid g c = λ κs lives. c.in_ok-session.ensures.valid

pub take-requires-clause-met : goal.take-requires-clause-met
take-requires-clause-met g c = λ κs lives. c.in_ok-session.ensures.met

pub returns : goal.returns
returns g c = IfOk-weaker c.take.result _ _ (λ told h. tells_drilled _ _ _ _ _ h c.in_ok-session.ensures.drilled) c.take.ensures
