use Rattle.std.proofs.Common.{[], arith}
use Rattle.core_engine.proofs.Delivering.{same_more}
use Rattle.core_engine.proofs.Committing.{same_committed}
use Rattle.core_engine.proofs.Unread.{same_unread}
use Rattle.core_engine.proofs.putting.ready_step.Goals as goal

pub prepare_at-requires-clause-more : goal.prepare_at-requires-clause-more
prepare_at-requires-clause-more c = same_more c.args.queue.now c.reserve_step.new.queue (c.reserve_step.ensures.same.updates [] 0) c.requires.more

pub prepare_at-requires-clause-least : goal.prepare_at-requires-clause-least
prepare_at-requires-clause-least c = same_committed c.args.queue.now c.reserve_step.new.queue c.args.scene.now.least c.reserve_step.ensures.same c.requires.least

pub prepare_at-requires-clause-most : goal.prepare_at-requires-clause-most
prepare_at-requires-clause-most c = same_unread c.args.queue.now c.reserve_step.new.queue c.args.scene.now.most c.reserve_step.ensures.same c.requires.most

pub prepare_at-requires-clause-few : goal.prepare_at-requires-clause-few
prepare_at-requires-clause-few c = omega arith
