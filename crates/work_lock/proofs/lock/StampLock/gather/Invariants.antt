use Rattle.std.proofs.Common.{◌≡◌, ◌++◌, [], map, length}
use Rattle.std.specs.Vec.Iter.{into_iter_items, into_iter_len}
use Rattle.work_lock.specs.Seats.{seen_of}
use Rattle.work_lock.specs.Within.{IsSameInTable, gathered}
use Rattle.work_lock.proofs.lock.StampLock.gather.Given as goal

abbrev pub invariant-loop-other : goal.invariant-loop-other
invariant-loop-other g l = (l.yielded ++ into_iter_items l.other-iterator ≡ into_iter_items l.initial.other-iterator)
    × IsSameInTable l.initial.first.at l.first.at
    × (l.first.at.me ≡ (gathered l.initial.first.at.me.0 (map seen_of l.yielded), []))
    × (into_iter_len l.other-iterator ≡ length (into_iter_items l.other-iterator))
