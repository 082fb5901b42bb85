use Rattle.core_queue.proofs.Walking.{none_committed}
use Rattle.core_queue.proofs.order.committed.Goals as goal

pub committed_from-requires-clause-least : goal.committed_from-requires-clause-least
committed_from-requires-clause-least c = none_committed c.args.queue.now
