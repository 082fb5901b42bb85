use Rattle.std.proofs.Common.{◌≡◌, ◌++◌, ◌+◌, ◌≤◌, length, vec_len, vec_capacity}
use Rattle.std.specs.Vec.Iter.{into_iter_items, into_iter_len}
use Rattle.try_lock.specs.Workers.{seats_of}
use Rattle.try_lock.proofs.crew.dismiss.Given as goal

abbrev pub invariant-loop-worker : goal.invariant-loop-worker
invariant-loop-worker l = (l.yielded ++ into_iter_items l.worker-iterator ≡ into_iter_items l.initial.worker-iterator)
    × (l.seats.items ≡ seats_of l.yielded)
    × (vec_len l.seats + into_iter_len l.worker-iterator ≤ vec_capacity l.seats)
    × (into_iter_len l.worker-iterator ≡ length (into_iter_items l.worker-iterator))
