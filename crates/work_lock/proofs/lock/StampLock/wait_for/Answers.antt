use Rattle.std.proofs.Common.{rules, ap, ◌∙◌}
use Rattle.work_lock.proofs.TurnSteps.{looks_up}
use Rattle.work_lock.proofs.lock.StampLock.wait_for.Goals as goal

pub load-serving-requires : goal.load-serving-requires
load-serving-requires g c = (search rules, search rules, looks_up g.V.Grows.entries _ _ _ c.requires.turn.1.0 (ap (λ m. m.0.stage) c.loop.invariant.1 ∙ c.requires.turn.1.1))
