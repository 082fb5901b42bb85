use Rattle.std.proofs.Common.{◌≡◌, ◌<◌, ◌≤◌, length, map, arith}
use Rattle.base_types.specs.Meanings.{fact_of, pattern_of}
use Rattle.core_conflict.specs.Impacts.{IsReachWithin, has_seats}
use Rattle.core_conflict.proofs.Within.{reach_itself, reach_more, seats_still}
use Rattle.core_conflict.proofs.Gathering.{begins, goes_on, ends}
use Rattle.core_conflict.proofs.impacts.Reach.with.Goals as goal

pub loop-atom-init : goal.loop-atom-init
loop-atom-init c = record { more = reach_itself c.args.self; has = begins IsReachWithin (λ v. has_seats v (map pattern_of c.args.seats.now) (fact_of c.args.tuple.now)) pattern_of (reach_more) (λ v w a. seats_still (map pattern_of c.args.seats.now) (fact_of c.args.tuple.now) v w a) c.args.atoms.now c.args.self }

pub loop-atom-preserved : goal.loop-atom-preserved
loop-atom-preserved c =
    let l : c.loop-atom.atom-index < length c.args.atoms.now = omega arith in
    record {
      more = reach_more c.args.self c.loop-atom.all c.with_atom-all.result c.loop-atom.invariant.more c.with_atom-all.ensures.more;
      has = goes_on IsReachWithin (λ v. has_seats v (map pattern_of c.args.seats.now) (fact_of c.args.tuple.now)) pattern_of (reach_more) (λ v w a. seats_still (map pattern_of c.args.seats.now) (fact_of c.args.tuple.now) v w a) c.args.atoms.now c.loop-atom.atom-index c.atom-item.result c.loop-atom.all c.with_atom-all.result l c.atom-item.is c.with_atom-all.ensures.more c.with_atom-all.ensures.has c.loop-atom.invariant.has;
    }

pub returns-clause-has : goal.returns-clause-has
returns-clause-has c =
    let all : c.loop-atom.atom-index ≡ length c.args.atoms.now = omega arith in
    ends IsReachWithin (λ v. has_seats v (map pattern_of c.args.seats.now) (fact_of c.args.tuple.now)) pattern_of (reach_more) (λ v w a. seats_still (map pattern_of c.args.seats.now) (fact_of c.args.tuple.now) v w a) c.args.atoms.now c.loop-atom.atom-index c.loop-atom.all all (reach_itself c.loop-atom.all) c.loop-atom.invariant.has
