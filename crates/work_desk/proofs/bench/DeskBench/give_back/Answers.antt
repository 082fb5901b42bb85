use Rattle.std.proofs.Common.{ap}
use Rattle.work_lock.specs.Seats.{Place}
use Rattle.work_desk.proofs.Counting.{back_turn}
use Rattle.work_desk.proofs.bench.DeskBench.give_back.Goals as goal

pub returns-clause-given : goal.returns-clause-given
returns-clause-given g c = (back_turn _ _ _ c.args.ticket _ _ (ap (λ (z : Place). z.number) c.give_back.ensures.place) c.give_back.ensures.back).0

pub returns-clause-spent : goal.returns-clause-spent
returns-clause-spent g c = (back_turn _ _ _ c.args.ticket _ _ (ap (λ (z : Place). z.number) c.give_back.ensures.place) c.give_back.ensures.back).1
