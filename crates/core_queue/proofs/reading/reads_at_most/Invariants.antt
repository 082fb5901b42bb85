use Rattle.std.proofs.Common.{◌≤◌, length}
use Rattle.core_queue.specs.Order.{ReadsAtMost}
use Rattle.core_queue.proofs.reading.reads_at_most.Given as goal

abbrev pub invariant-updates : goal.invariant-updates
invariant-updates l = record {
  most : ReadsAtMost l.queue l.count;
  within : l.count ≤ length l.queue;
}

abbrev pub decreases-updates : goal.decreases-updates
decreases-updates l = l.count
