use Rattle.std.proofs.Common.{map}
use Rattle.base_types.specs.Meanings.{fact_of, pattern_of}
use Rattle.core_conflict.specs.Impacts.{IsReachWithin, has_seats}
use Rattle.core_conflict.proofs.Gathering.{Gathers}
use Rattle.core_conflict.proofs.impacts.Reach.with.Given as goal

abbrev pub invariant-loop-atom : goal.invariant-loop-atom
invariant-loop-atom l = record {
  more : IsReachWithin l.fn.self l.all;
  has : Gathers IsReachWithin (λ v. has_seats v (map pattern_of l.seats) (fact_of l.tuple)) pattern_of l.atoms l.atom-index l.all;
}
