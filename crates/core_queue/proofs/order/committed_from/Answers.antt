use Rattle.core_queue.proofs.Walking.{counted_after, rest_from}
use Rattle.core_queue.proofs.order.committed_from.Goals as goal

pub counted-requires : goal.counted-requires
counted-requires c = record { from = rest_from c.args.queue.now c.after.result.now c.args.least c.requires.least c.requires.from c.after.ensures.rest }

pub returns : goal.returns
returns c = record { committed = counted_after c.args.queue.now c.after.result.now c.args.least c.counted.result c.requires.least c.after.ensures.rest c.counted.ensures.committed }
