use Rattle.core_result.proofs.Whole.{left_is, one_more_fits}
use Rattle.core_result.proofs.results.left.Goals as goal

pub overflow_add-committed : goal.overflow_add-committed
overflow_add-committed c = one_more_fits c.args.queue.now c.committed.result c.requires.few c.committed.ensures.committed

pub returns : goal.returns
returns c = record { left = left_is c.repository.result c.args.queue.now c.args.versions.now c.committed.result c.committed.ensures.committed c.repository.ensures.answered }
