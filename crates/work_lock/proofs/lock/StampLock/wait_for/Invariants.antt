use Rattle.std.proofs.Common.{◌≡◌}
use Rattle.work_lock.specs.Within.{IsSameInTable}
use Rattle.work_lock.proofs.lock.StampLock.wait_for.Given as goal

abbrev pub invariant-loop : goal.invariant-loop
invariant-loop g l = IsSameInTable l.initial.seat l.seat × (l.seat.me ≡ l.initial.seat.me)
