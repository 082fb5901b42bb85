use Rattle.std.proofs.Common.{◌∙◌, ap, sym, refl, subst, arith, length, [], ◌∷◌, Some}
use Rattle.def_record.specs.declared.item.Mark.TheVariants.{Returning}
use Rattle.def_record.specs.Items.{made}
use Rattle.work_desk.specs.Shared.{Shared, items_of}
use Rattle.work_desk.specs.Tickets.{IsOutFor}
use Rattle.work_desk.proofs.Joining.{more}
use Rattle.work_desk.specs.Marks.{shared}
use Rattle.work_desk.proofs.Boards.{shared_more, one_less, back_is}
use Rattle.work_desk.proofs.board.Board.give_back.Goals as goal

pub push_reserved-requires : goal.push_reserved-requires
push_reserved-requires g c =
    let i = c.self.inside in
    let b = shared (g.C.Core.over i.core) (g.C.Core.history i.core) i.opened i.marks.items i.busy.items i.given in
    let less = one_less g.C.Core.is_snapshot b c.self.invariant.0 c.args.seat c.args.ticket (subst (λ (z : Shared). IsOutFor g.C.Core.is_snapshot z.over (items_of z) c.args.seat c.args.ticket) (sym c.self.view_is) c.requires.out) in
    omega (arith, less, c.self.invariant.1, i.busy.ok)

pub invariant_of-self : goal.invariant_of-self
invariant_of-self g c =
    let i = c.self.inside in
    let o = g.C.Core.over i.core in
    let H = g.C.Core.history i.core in
    let b = shared o H i.opened i.marks.items i.busy.items i.given in
    let t = c.args.ticket in
    let less = one_less g.C.Core.is_snapshot b c.self.invariant.0 c.args.seat t (subst (λ (z : Shared). IsOutFor g.C.Core.is_snapshot z.over (items_of z) c.args.seat t) (sym c.self.view_is) c.requires.out) in
    let same = shared_more o o H H i.opened i.marks.items _ (record { mark = Returning t.number; maker = c.args.seat } ∷ []) i.busy.items _ i.given i.given refl c.push_reserved.ensures.items ∙ (λ k. more b (made (Returning t.number) (Some c.args.seat) ∷ []) H (c.leave.ensures.left k) i.given) in
    let p = back_is g.C.Core.is_snapshot b _ _ c.args.seat t c.self.invariant.0 c.self.view_is c.requires.out same in
    let left = ap length c.leave.ensures.left in
    (p.0, omega (arith, less, left, c.self.invariant.1, i.busy.ok, c.leave.new.busy.ok, c.push_reserved.ensures.len, c.push_reserved.ensures.capacity))

pub returns-clause-back : goal.returns-clause-back
returns-clause-back g c =
    let i = c.self.inside in
    let o = g.C.Core.over i.core in
    let H = g.C.Core.history i.core in
    let b = shared o H i.opened i.marks.items i.busy.items i.given in
    let t = c.args.ticket in
    let same = shared_more o o H H i.opened i.marks.items _ (record { mark = Returning t.number; maker = c.args.seat } ∷ []) i.busy.items _ i.given i.given refl c.push_reserved.ensures.items ∙ (λ k. more b (made (Returning t.number) (Some c.args.seat) ∷ []) H (c.leave.ensures.left k) i.given) in
    (back_is g.C.Core.is_snapshot b _ _ c.args.seat t c.self.invariant.0 c.self.view_is c.requires.out same).1
