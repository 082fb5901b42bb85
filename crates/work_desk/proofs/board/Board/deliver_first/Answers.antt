use Rattle.std.proofs.Common.{◌≡◌, ◌∙◌, ap, sym, subst, arith, [], ◌∷◌, ◌++◌, Some}
use Rattle.def_record.specs.declared.item.Mark.TheVariants.{Next}
use Rattle.work_desk.specs.Shared.{Shared}
use Rattle.work_desk.specs.Cores.{lowest_waiting}
use Rattle.work_desk.specs.Marks.{shared}
use Rattle.work_desk.proofs.Boards.{shared_more}
use Rattle.work_desk.proofs.Stretching.{delivery_made}
use Rattle.work_desk.proofs.board.Board.deliver_first.Goals as goal

pub deliver-requires : goal.deliver-requires
deliver-requires g c = record { waiting = subst (λ (b : Shared). lowest_waiting b.over b.history ≡ Some c.args.update) (sym c.self.view_is) c.requires.waiting }

pub invariant_of-self-2 : goal.invariant_of-self-2
invariant_of-self-2 g c =
    let i = c.self.inside in
    let o = g.C.Core.over i.core in
    let H = g.C.Core.history i.core in
    let marks = c.push_reserved.ensures.items ∙ ap (λ l. l ++ record { mark = Next; maker = c.args.seat } ∷ []) c.in_ok-reserve.ensures.items in
    let same = shared_more o _ H (g.C.Core.history c.deliver.new.self) i.opened i.marks.items _ (record { mark = Next; maker = c.args.seat } ∷ []) i.busy.items i.busy.items i.given i.given c.in_ok-deliver.ensures.over marks in
    let p = delivery_made (shared o H i.opened i.marks.items i.busy.items i.given) _ _ c.args.seat c.args.update (g.C.Core.history c.deliver.new.self) c.self.invariant.0 c.self.view_is
    (subst (λ (b : Shared). lowest_waiting b.over b.history ≡ Some c.args.update) (sym c.self.view_is) c.requires.waiting)
    c.in_ok-deliver.ensures.made same in
    (p.0, omega (arith, c.in_ok-reserve.ensures.ok, c.in_ok-reserve.ensures.len, c.push_reserved.ensures.len, c.push_reserved.ensures.capacity, c.len.ensures))

pub returns-clause-delivered : goal.returns-clause-delivered
returns-clause-delivered g c =
    let i = c.self.inside in
    let o = g.C.Core.over i.core in
    let H = g.C.Core.history i.core in
    let marks = c.push_reserved.ensures.items ∙ ap (λ l. l ++ record { mark = Next; maker = c.args.seat } ∷ []) c.in_ok-reserve.ensures.items in
    let same = shared_more o _ H (g.C.Core.history c.deliver.new.self) i.opened i.marks.items _ (record { mark = Next; maker = c.args.seat } ∷ []) i.busy.items i.busy.items i.given i.given c.in_ok-deliver.ensures.over marks in
    (delivery_made (shared o H i.opened i.marks.items i.busy.items i.given) _ _ c.args.seat c.args.update (g.C.Core.history c.deliver.new.self) c.self.invariant.0 c.self.view_is
    (subst (λ (b : Shared). lowest_waiting b.over b.history ≡ Some c.args.update) (sym c.self.view_is) c.requires.waiting)
    c.in_ok-deliver.ensures.made same).1
