use Rattle.std.proofs.Common.{◌∙◌, add-one}
use Rattle.core_queue.proofs.Deciding.{held, going}
use Rattle.core_queue.proofs.updates.QueuedUpdate.standing_going.Goals as goal

pub returns-then-is_held : goal.returns-then-is_held
returns-then-is_held c = record { standing = λ ms B. held c.is_held.result _ _ _ _ c.if-is_held.true (c.is_held.ensures.held ms B) (add-one c.args.committed) }

pub returns-in-None : goal.returns-in-None
returns-in-None c = record { standing = λ ms B. going c.is_held.result _ _ _ _ c.if-is_held.false (c.is_held.ensures.held ms B) (c.in-None.ensures.lack ms B) }

pub returns-in-Some : goal.returns-in-Some
returns-in-Some c = record { standing = λ ms B. c.paused.ensures.paused ∙ going c.is_held.result _ _ _ _ c.if-is_held.false (c.is_held.ensures.held ms B) (c.in-Some.ensures.lack ms B) }
