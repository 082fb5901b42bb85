use Rattle.std.proofs.Common.{◌∙◌, ap, sym, subst, ℕ}
use Rattle.work_lock.specs.Seats.{Place, seen_of, number_of}
use Rattle.def_history.specs.Cores.{Ground}
use Rattle.work_desk.specs.Shared.{items_of, now_at}
use Rattle.work_desk.specs.Tickets.{IsOutFor}
use Rattle.work_desk.proofs.Passing.{same_over, out_stays}
use Rattle.work_desk.proofs.desk.Desk.give_back.Goals as goal

pub give_back-requires : goal.give_back-requires
give_back-requires g c =
    let b = c.open-turn.result.1 in
    let h = c.known.ensures.shared in
    let s = c.args.seat.now in
    let follows = c.open-turn.ensures.follows in
    let over = same_over _ _ c.requires.own.later (seen_of s) (number_of s) b c.requires.own.saw follows in
    let out = subst (λ (o : Ground). IsOutFor g.C.Core.is_snapshot o (seen_of s) (number_of s) c.args.ticket) (sym over) c.requires.out in
    record {
      out = subst (λ (j : ℕ). IsOutFor g.C.Core.is_snapshot b.over (items_of b) j c.args.ticket) (sym (c.number.ensures ∙ ap (λ (z : Place). z.number) c.open-turn.ensures.place))
          (out_stays g.C.Core.is_snapshot b.over (seen_of s) (items_of b) (number_of s) c.args.ticket (now_at b h.out) out follows h.stands);
    }
