use Rattle.core_queue.specs.Order.{UnreadyUpTo}
use Rattle.core_queue.proofs.unready.unready_from.Given as goal
use Rattle.std.proofs.Common.{length, ◌-◌}

abbrev pub invariant-updates : goal.invariant-updates
invariant-updates l = record { unready : UnreadyUpTo l.queue l.count }

abbrev pub decreases-updates : goal.decreases-updates
decreases-updates l = length l.queue - l.count
