use Rattle.std.proofs.Common.{rules, ◌≡◌, ap, refl, subst, ◌∙◌, arith, length}
use Rattle.atomic_table.proofs.Lists.{at_index}
use Rattle.work_lock.specs.Seats.{Place, AreSeats}
use Rattle.work_lock.specs.Lock.{lock_id}
use Rattle.work_lock.proofs.SeatSteps.{deals}
use Rattle.work_lock.proofs.SeatLists.{deals_one, saw_one, first_alone, all_of}
use Rattle.work_lock.proofs.lock.StampLock.deal.Goals as goal

pub loop-seats-init : goal.loop-seats-init
loop-seats-init g c = let s = c.requires.first.0 in let e = c.requires.first.1 in let d = first_alone _ s c.requires.first.2 in
    let all = all_of _ _ _ _ e d.0 in let one = all.0 in let many = c.requires.count.0 in
    (omega arith, omega arith, c.requires.room, all.1, rw e d.1)

pub split_seat-next-requires : goal.split_seat-next-requires
split_seat-next-requires g c =
    let inv = c.loop-seats.invariant in
    let at = at_index c.loop-seats.seats.items 0 c.index_mut-first.result.now inv.0 c.index_mut-first.ensures.value in
    let q = inv.3.1 0 _ at in
    let few = c.requires.count.1 in
    let test = c.loop-seats-test.true in
    let len = c.len.ensures in
    (ap (λ (z : Place). z.lock) q.0, search rules, deals g.V.Grows.entries _ _ q.1.0 (let n = ap (λ (z : Place). z.dealt) q.0 in let some_seat = inv.0 in omega arith) (let n = ap (λ (z : Place). z.dealt) q.0 in let ok = c.loop-seats.seats.ok in omega arith))

pub loop-seats-preserved : goal.loop-seats-preserved
loop-seats-preserved g c =
    let inv = c.loop-seats.invariant in
    let at = at_index c.loop-seats.seats.items 0 c.index_mut-first.result.now inv.0 c.index_mut-first.ensures.value in
    let q = inv.3.1 0 _ at in
    let s = c.split_seat-next.ensures in
    let all = all_of _ _ _ _ c.push_reserved.ensures.items (deals_one _ _ c.loop-seats.seats.items c.index_mut-first.result.now _ _ inv.0 inv.3 at (s.0 ∙ ap (λ (z : Place). z.lock) q.0) refl s.2 (s.3 ∙ ap (λ (z : Place). z.lock) q.0) (c.len-number.ensures ∙ c.loop-seats.seats.ok.0) s.4) in
    let saw = saw_one _ c.loop-seats.seats.items c.index_mut-first.result.now _ _ inv.4 at s.2 s.4 in
    let n = all.0 in (
      omega arith,
      (let test = c.loop-seats-test.true in let len = c.len.ensures in let ok = c.loop-seats.seats.ok in omega arith),
      search rules,
      all.1,
      rw c.push_reserved.ensures.items saw,
    )

pub returns-clause-seats : goal.returns-clause-seats
returns-clause-seats g c =
    let inv = c.loop-seats.invariant in
    let full : length c.loop-seats.seats.items ≡ c.args.count = (let test = c.loop-seats-test.false in let few = inv.1 in let len = c.len.ensures in let ok = c.loop-seats.seats.ok in omega arith) in
    subst (λ k. AreSeats (lock_id c.args.self.now) k c.loop-seats.seats.items) full inv.3
