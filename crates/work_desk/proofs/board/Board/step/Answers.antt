use Rattle.std.proofs.Common.{◌∙◌, ap, sym, subst, arith, length, [], ◌∷◌, ◌++◌, append_assoc, Some}
use Rattle.def_memory.specs.declared.Memory.{Memory}
use Rattle.def_record.specs.declared.item.Mark.TheVariants.{Next, Returning}
use Rattle.def_record.specs.Items.{made}
use Rattle.work_desk.specs.declared.board.Marked.{Marked}
use Rattle.work_desk.specs.Shared.{Shared}
use Rattle.work_desk.proofs.Joining.{more}
use Rattle.work_desk.specs.Marks.{shared}
use Rattle.work_desk.proofs.Boards.{shared_more, fewer_left, step_is}
use Rattle.work_desk.proofs.board.Board.step.Goals as goal

pub invariant_of-self-2 : goal.invariant_of-self-2
invariant_of-self-2 g c =
    let i = c.self.inside in
    let o = g.C.Core.over i.core in
    let H = g.C.Core.history i.core in
    let K = g.C.Core.history c.install.new.self in
    let b = shared o H i.opened i.marks.items i.busy.items i.given in
    let t = c.args.ticket.now in
    let x : Marked = record { mark = Next; maker = c.args.seat } in
    let y : Marked = record { mark = Returning t.number; maker = c.args.seat } in
    let marks = c.push_reserved-2.ensures.items ∙ (ap (λ l. l ++ y ∷ []) (c.push_reserved.ensures.items ∙ ap (λ l. l ++ x ∷ []) c.in_default.ensures.items) ∙ append_assoc i.marks.items (x ∷ []) (y ∷ [])) in
    let same = shared_more o _ H K i.opened i.marks.items _ (x ∷ y ∷ []) i.busy.items _ i.given i.given c.in_ok-install.ensures.over marks ∙ (λ k. more b (made Next (Some c.args.seat) ∷ made (Returning t.number) (Some c.args.seat) ∷ []) K (c.leave.ensures.left k) i.given) in
    let plan = subst (λ (z : Shared). g.C.Core.is_plan c.args.plan z.over z.history t.update) (sym c.self.view_is) c.requires.plan in
    let p = step_is g.C.Core.is_snapshot {E = Memory} b _ _ c.args.seat t K c.length.result c.self.invariant.0 c.self.view_is c.requires.out (c.in_ok-install.ensures.made t.update plan) same c.length.ensures.length in
    let left = ap length c.leave.ensures.left in
    (p.0, omega (arith, left, fewer_left t.update i.busy.items, c.self.invariant.1, i.busy.ok, c.leave.new.busy.ok, c.len.ensures, c.in_default.ensures.ok, c.in_default.ensures.len, c.push_reserved.ensures.len, c.push_reserved.ensures.capacity, c.push_reserved-2.ensures.len, c.push_reserved-2.ensures.capacity))

pub returns-clause-step : goal.returns-clause-step
returns-clause-step g c =
    let i = c.self.inside in
    let o = g.C.Core.over i.core in
    let H = g.C.Core.history i.core in
    let K = g.C.Core.history c.install.new.self in
    let b = shared o H i.opened i.marks.items i.busy.items i.given in
    let t = c.args.ticket.now in
    let x : Marked = record { mark = Next; maker = c.args.seat } in
    let y : Marked = record { mark = Returning t.number; maker = c.args.seat } in
    let marks = c.push_reserved-2.ensures.items ∙ (ap (λ l. l ++ y ∷ []) (c.push_reserved.ensures.items ∙ ap (λ l. l ++ x ∷ []) c.in_default.ensures.items) ∙ append_assoc i.marks.items (x ∷ []) (y ∷ [])) in
    let same = shared_more o _ H K i.opened i.marks.items _ (x ∷ y ∷ []) i.busy.items _ i.given i.given c.in_ok-install.ensures.over marks ∙ (λ k. more b (made Next (Some c.args.seat) ∷ made (Returning t.number) (Some c.args.seat) ∷ []) K (c.leave.ensures.left k) i.given) in
    let plan = subst (λ (z : Shared). g.C.Core.is_plan c.args.plan z.over z.history t.update) (sym c.self.view_is) c.requires.plan in
    let p = step_is g.C.Core.is_snapshot {E = Memory} b _ _ c.args.seat t K c.length.result c.self.invariant.0 c.self.view_is c.requires.out (c.in_ok-install.ensures.made t.update plan) same c.length.ensures.length in
    p.1
