use Rattle.std.proofs.Common.{◌∙◌, ap, sym, subst}
use Rattle.work_desk.specs.Shared.{Shared, items_of}
use Rattle.work_desk.specs.Tickets.{IsOutFor}
use Rattle.work_desk.specs.Marks.{shared}
use Rattle.work_desk.proofs.Boards.{holds_since, finish_stale, finish_stepped}
use Rattle.work_desk.proofs.board.Board.finish.Goals as goal

pub returns-in-Some-clause-finish : goal.returns-in-Some-clause-finish
returns-in-Some-clause-finish g c =
    let i = c.self.inside in
    let b = shared (g.C.Core.over i.core) (g.C.Core.history i.core) i.opened i.marks.items i.busy.items i.given in
    finish_stale (λ H. g.C.Core.stale_since c.args.plan c.args.self.now.over H c.args.ticket.stamp) (g.C.Core.is_plan c.args.plan) b _ _ c.args.seat c.args.ticket c.in-Some.entry c.self.invariant.0 c.self.view_is
    (ap (λ (z : Shared). g.C.Core.stale_since c.args.plan z.over b.history c.args.ticket.stamp) (sym c.self.view_is) ∙ (sym c.stale_by.ensures.entry ∙ c.in-Some.is)) c.give_back.ensures.back

pub step-requires-clause-plan : goal.step-requires-clause-plan
step-requires-clause-plan g c =
    let i = c.self.inside in
    let b = shared (g.C.Core.over i.core) (g.C.Core.history i.core) i.opened i.marks.items i.busy.items i.given in
    let out = subst (λ (z : Shared). IsOutFor g.C.Core.is_snapshot z.over (items_of z) c.args.seat c.args.ticket) (sym c.self.view_is) c.requires.out in
    subst (λ (z : Shared). g.C.Core.is_plan c.args.plan z.over z.history c.args.ticket.update) c.self.view_is
    (c.in_default.ensures.stays c.args.ticket.update (holds_since g.C.Core.is_snapshot b c.self.invariant.0 c.args.seat c.args.ticket out g.C.Core.is_plan c.args.plan c.requires.plan))

pub returns-in-Ok-clause-finish : goal.returns-in-Ok-clause-finish
returns-in-Ok-clause-finish g c =
    let i = c.self.inside in
    let b = shared (g.C.Core.over i.core) (g.C.Core.history i.core) i.opened i.marks.items i.busy.items i.given in
    let out = subst (λ (z : Shared). IsOutFor g.C.Core.is_snapshot z.over (items_of z) c.args.seat c.args.ticket) (sym c.self.view_is) c.requires.out in
    finish_stepped (λ H. g.C.Core.stale_since c.args.plan c.args.self.now.over H c.args.ticket.stamp) (g.C.Core.is_plan c.args.plan) b _ _ c.args.seat c.args.ticket c.in-Ok.entry c.self.invariant.0 c.self.view_is
    (ap (λ (z : Shared). g.C.Core.stale_since c.args.plan z.over b.history c.args.ticket.stamp) (sym c.self.view_is) ∙ (sym c.stale_by.ensures.entry ∙ c.in_default.is))
    (c.in_default.ensures.stays c.args.ticket.update (holds_since g.C.Core.is_snapshot b c.self.invariant.0 c.args.seat c.args.ticket out g.C.Core.is_plan c.args.plan c.requires.plan)) c.in-Ok.ensures.step
