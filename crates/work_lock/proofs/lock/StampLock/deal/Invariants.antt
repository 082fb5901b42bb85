use Rattle.std.proofs.Common.{◌-◌, ◌<◌, ◌≤◌, length, vec_capacity}
use Rattle.work_lock.specs.Seats.{AreSeats, AllSaw}
use Rattle.work_lock.specs.Within.{seen_first}
use Rattle.work_lock.specs.Lock.{lock_id}
use Rattle.work_lock.proofs.lock.StampLock.deal.Given as goal

abbrev pub invariant-loop-seats : goal.invariant-loop-seats
invariant-loop-seats g l = (0 < length l.seats.items) × (length l.seats.items ≤ l.count) × (l.count ≤ vec_capacity l.seats)
    × AreSeats (lock_id l.self) (length l.seats.items) l.seats.items × AllSaw (seen_first l.initial.seats.items) l.seats.items

abbrev pub decreases-loop-seats : goal.decreases-loop-seats
decreases-loop-seats g l = l.count - length l.seats.items
