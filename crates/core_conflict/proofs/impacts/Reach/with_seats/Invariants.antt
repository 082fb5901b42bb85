use Rattle.base_types.specs.Meanings.{fact_of, pattern_of}
use Rattle.core_conflict.specs.Impacts.{IsReachWithin, has_seat}
use Rattle.core_conflict.proofs.Gathering.{Gathers}
use Rattle.core_conflict.proofs.impacts.Reach.with_seats.Given as goal

abbrev pub invariant-loop-seat : goal.invariant-loop-seat
invariant-loop-seat l = record {
  more : IsReachWithin l.fn.self l.all;
  has : Gathers IsReachWithin (λ v. has_seat v (fact_of l.tuple) (pattern_of l.atom)) pattern_of l.seats l.seat-index l.all;
}
