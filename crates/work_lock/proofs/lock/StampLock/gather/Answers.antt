use Rattle.std.proofs.Common.{rules, ◌≡◌, ◌+◌, ap, sym, ◌∙◌, arith, [], ◌∷◌, ◌++◌, length, map, append_assoc}
use Rattle.std.proofs.lemmas.List.{append-nil, nil_from_length, length-map}
use Rattle.work_lock.specs.Seats.{seen_of}
use Rattle.work_lock.specs.Within.{gathered}
use Rattle.std.specs.Vec.Iter.{into_iter_items}
use Rattle.work_lock.proofs.SeatSteps.{gathers}
use Rattle.work_lock.proofs.Lists.{in_middle}
use Rattle.work_lock.proofs.SeatLists.{gathers_one}
use Rattle.work_lock.proofs.lock.StampLock.gather.Goals as goal

pub join_seat-requires : goal.join_seat-requires
join_seat-requires g c =
    let inv = c.loop-other.invariant in let x = c.in-Some.other in let i = c.into_inner-at.ensures in
    let all : c.loop-other.yielded ++ x ∷ into_iter_items c.next.new.self ≡ c.args.others.items = rw (← c.in-Some.ensures.steps.0) (inv.0 ∙ c.into_iter-other-iterator.ensures.into_iter_gives.0) in
    let here = in_middle c.loop-other.yielded _ _ x all in
    let o = c.requires.others _ x here in (
      inv.1.0 ∙ c.requires.lock,
      ap (λ z. z.table_id) i ∙ o.0,
      ap (λ z. z.me.1) i ∙ o.2.1,
      search rules,
      gathers g.V.Grows.entries _ _ _ _ (ap (λ m. m.0.stage) inv.2 ∙ c.requires.first.0) (ap (λ z. z.me.0.stage) i ∙ o.2.0)
          (ap (λ z. z.me.0.number) i ∙ (o.2.2 ∙ o.1 ∙ ap (λ k. k + 1) (sym (length-map c.loop-other.yielded seen_of) ∙ ap (λ m. length m.0.joined) (sym inv.2)))),
    )

pub loop-other-preserved : goal.loop-other-preserved
loop-other-preserved g c =
    let inv = c.loop-other.invariant in let x = c.in-Some.other in let i = c.into_inner-at.ensures in let e = c.join_seat.ensures in let steps = c.in-Some.ensures.steps in (
      append_assoc c.loop-other.yielded (x ∷ []) _ ∙ rw (← steps.0) inv.0,
      (e.0 ∙ inv.1.0, e.1 ∙ inv.1.1),
      e.2 ∙ gathers_one c.args.first.now.at.me.0 c.loop-other.yielded x _ _ inv.2 (ap (λ z. z.me.0) i),
      (let was = inv.3 in let gone = steps.1 in let short = ap length steps.0 in omega arith),
    )

pub returns-clause-gathered : goal.returns-clause-gathered
returns-clause-gathered g c =
    let at = c.loop-other in let inv = c.loop-other.invariant in let none = c.in-None.ensures.steps in
    let empty : into_iter_items at.other-iterator ≡ [] = nil_from_length _ (sym inv.3 ∙ none.0) in
    let all : at.yielded ≡ c.args.others.items = sym (append-nil at.yielded) ∙ rw empty at inv.0 ∙ c.into_iter-other-iterator.ensures.into_iter_gives.0 in
    inv.2 ∙ ap (λ l. (gathered c.args.first.now.at.me.0 (map seen_of l), [])) all
