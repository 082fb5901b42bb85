use Rattle.std.proofs.Common.{◌≡◌, ◌++◌, ◌+◌, ◌≤◌, length, vec_len, vec_capacity}
use Rattle.std.specs.Vec.Iter.{into_iter_items, into_iter_len}
use Rattle.try_lock.specs.Workers.{seats_of}
use Rattle.try_lock.proofs.crew.hire.Given as goal

abbrev pub invariant-loop-seat : goal.invariant-loop-seat
invariant-loop-seat l = (l.yielded ++ into_iter_items l.seat-iterator ≡ into_iter_items l.initial.seat-iterator)
    × (seats_of l.workers.items ≡ l.yielded)
    × (vec_len l.workers + into_iter_len l.seat-iterator ≤ vec_capacity l.workers)
    × (into_iter_len l.seat-iterator ≡ length (into_iter_items l.seat-iterator))
