use Rattle.std.proofs.Common.{ap, Ok, Err}
use Rattle.work_lock.specs.Seats.{Place}
use Rattle.work_desk.proofs.Counting.{finish_turn}
use Rattle.work_desk.proofs.bench.DeskBench.finish.Goals as goal

pub returns-in-Ok-clause-given : goal.returns-in-Ok-clause-given
returns-in-Ok-clause-given g c = (finish_turn _ _ _ _ _ c.args.ticket c.finish.result (Ok _) _ _ (ap (λ (z : Place). z.number) c.finish.ensures.place) c.in-Ok.is c.finish.ensures.finish).0

pub returns-in-Ok-clause-spent : goal.returns-in-Ok-clause-spent
returns-in-Ok-clause-spent g c = (finish_turn _ _ _ _ _ c.args.ticket c.finish.result (Ok _) _ _ (ap (λ (z : Place). z.number) c.finish.ensures.place) c.in-Ok.is c.finish.ensures.finish).1

pub returns-in-Err-clause-given : goal.returns-in-Err-clause-given
returns-in-Err-clause-given g c = (finish_turn _ _ _ _ _ c.args.ticket c.finish.result (Err _) _ _ (ap (λ (z : Place). z.number) c.finish.ensures.place) c.in-Err.is c.finish.ensures.finish).0

pub returns-in-Err-clause-spent : goal.returns-in-Err-clause-spent
returns-in-Err-clause-spent g c = (finish_turn _ _ _ _ _ c.args.ticket c.finish.result (Err _) _ _ (ap (λ (z : Place). z.number) c.finish.ensures.place) c.in-Err.is c.finish.ensures.finish).1
