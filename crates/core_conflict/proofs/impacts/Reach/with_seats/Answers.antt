use Rattle.std.proofs.Common.{◌≡◌, ◌<◌, ◌≤◌, length, map, arith, subst, ap, ◌∙◌, Option, ℕ, List, true}
use Rattle.base_types.specs.Meanings.{fact_of, pattern_of, slot_of}
use Rattle.core_conflict.specs.Impacts.{IsReachWithin, has_key, has_seat, key_from}
use Rattle.base_types.specs.declared.mappings.Term.{Term}
use Rattle.core_conflict.specs.Concerns.{columns}
use Rattle.def_chase.specs.Values.{Datum}
use Rattle.core_conflict.proofs.Within.{reach_itself, reach_more, seat_still}
use Rattle.core_conflict.proofs.Gathering.{begins, goes_on, ends}
use Rattle.core_conflict.proofs.impacts.Reach.with_seats.Goals as goal

pub loop-seat-init : goal.loop-seat-init
loop-seat-init c = record { more = reach_itself c.args.self; has = begins IsReachWithin (λ v. has_seat v (fact_of c.args.tuple.now) (pattern_of c.args.atom.now)) pattern_of (reach_more) (λ v w a. seat_still (fact_of c.args.tuple.now) (pattern_of c.args.atom.now) v w a) c.args.seats.now c.args.self }

pub loop-seat-preserved : goal.loop-seat-preserved
loop-seat-preserved c =
    let l : c.loop-seat.seat-index < length c.args.seats.now = omega arith in
    let has : has_seat c.with_key-all.result (fact_of c.args.tuple.now) (pattern_of c.args.atom.now) (pattern_of c.seat-item.result) ≡ true =
    subst (λ (o : Option (ℕ × Datum)). has_key c.with_key-all.result c.seat-item.result.relation o ≡ true)
    (c.first_key.ensures.key ∙ ap (λ (ts : List Term). key_from 0 (map slot_of ts) (columns (pattern_of c.args.atom.now) (fact_of c.args.tuple.now))) c.as_slice.ensures.items) c.with_key-all.ensures.has in
    record {
      more = reach_more c.args.self c.loop-seat.all c.with_key-all.result c.loop-seat.invariant.more c.with_key-all.ensures.more;
      has = goes_on IsReachWithin (λ v. has_seat v (fact_of c.args.tuple.now) (pattern_of c.args.atom.now)) pattern_of (reach_more) (λ v w a. seat_still (fact_of c.args.tuple.now) (pattern_of c.args.atom.now) v w a) c.args.seats.now c.loop-seat.seat-index c.seat-item.result c.loop-seat.all c.with_key-all.result l c.seat-item.is c.with_key-all.ensures.more has c.loop-seat.invariant.has;
    }

pub returns-clause-has : goal.returns-clause-has
returns-clause-has c =
    let all : c.loop-seat.seat-index ≡ length c.args.seats.now = omega arith in
    ends IsReachWithin (λ v. has_seat v (fact_of c.args.tuple.now) (pattern_of c.args.atom.now)) pattern_of (reach_more) (λ v w a. seat_still (fact_of c.args.tuple.now) (pattern_of c.args.atom.now) v w a) c.args.seats.now c.loop-seat.seat-index c.loop-seat.all all (reach_itself c.loop-seat.all) c.loop-seat.invariant.has
