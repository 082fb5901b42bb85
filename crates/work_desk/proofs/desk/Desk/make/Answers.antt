use Rattle.std.proofs.Common.{ap, arith}
use Rattle.work_lock.specs.Seats.{Place}
use Rattle.work_desk.proofs.Stretching.{stretch_turn, stretch_seen}
use Rattle.work_desk.proofs.desk.Desk.make.Goals as goal

pub returns-clause-holds : goal.returns-clause-holds
returns-clause-holds g c = record {
  place = c.stretch.ensures.place;
  seen = stretch_seen _ _ c.stretch.result _ _ c.stretch.ensures.stretch;
  held = (let t = stretch_turn _ _ _ c.stretch.result _ _ (ap (λ (z : Place). z.number) c.stretch.ensures.place) c.stretch.ensures.stretch in omega (arith, t));
}
