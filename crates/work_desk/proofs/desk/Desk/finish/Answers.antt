use Rattle.std.proofs.Common.{◌∙◌, ap, sym, subst, ℕ}
use Rattle.work_lock.specs.Seats.{Place, seen_of, number_of}
use Rattle.def_history.specs.Cores.{Ground}
use Rattle.work_desk.specs.Shared.{Items, items_of, now_at}
use Rattle.work_desk.specs.Tickets.{IsOutFor, HasFinished}
use Rattle.work_desk.proofs.Passing.{same_over, out_stays}
use Rattle.work_desk.proofs.desk.Desk.finish.Goals as goal

pub finish-finished-requires-clause-out : goal.finish-finished-requires-clause-out
finish-finished-requires-clause-out g c =
    let b = c.open-turn.result.1 in
    let h = c.known.ensures.shared in
    let s = c.args.seat.now in
    let follows = c.open-turn.ensures.follows in
    let over = same_over _ _ c.requires.own.later (seen_of s) (number_of s) b c.requires.own.saw follows in
    let out = subst (λ (o : Ground). IsOutFor g.C.Core.is_snapshot o (seen_of s) (number_of s) c.args.ticket) (sym over) c.requires.out in
    subst (λ (j : ℕ). IsOutFor g.C.Core.is_snapshot b.over (items_of b) j c.args.ticket) (sym (c.number.ensures ∙ ap (λ (z : Place). z.number) c.open-turn.ensures.place))
    (out_stays g.C.Core.is_snapshot b.over (seen_of s) (items_of b) (number_of s) c.args.ticket (now_at b h.out) out follows h.stands)

pub returns-clause-finish : goal.returns-clause-finish
returns-clause-finish g c =
    let b = c.open-turn.result.1 in
    let s = c.args.seat.now in
    let follows = c.open-turn.ensures.follows in
    let over = same_over _ _ c.requires.own.later (seen_of s) (number_of s) b c.requires.own.saw follows in
    let number = c.number.ensures ∙ ap (λ (z : Place). z.number) c.open-turn.ensures.place in
    record {
      others = follows.0;
      unmade = follows.2;
      then = subst (λ (y : ℕ × Ground × Items × Items). HasFinished (λ H. g.C.Core.stale_since c.args.plan y.1 H c.args.ticket.stamp) (g.C.Core.is_plan c.args.plan) y.0 y.1 c.args.ticket c.finish-finished.result y.2 y.3)
          (λ k. (number k, over k, sym c.close_turn.ensures.seen k, sym follows.1 k)) c.finish-finished.ensures.finish;
    }
