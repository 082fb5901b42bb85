use Rattle.std.proofs.Common.{◌≡◌, ◌∙◌, ◌+◌, ap, sym, refl, subst, arith, ◌++◌, length, length-append, Some}
use Rattle.work_desk.specs.Shared.{Shared}
use Rattle.work_desk.specs.Cores.{lowest_idle}
use Rattle.work_desk.specs.Marks.{shared, step_marked}
use Rattle.work_desk.proofs.Flights.{ready_is}
use Rattle.work_desk.proofs.Boards.{shared_more}
use Rattle.work_desk.proofs.Stretching.{step_made}
use Rattle.work_desk.proofs.board.Board.step_whole.Goals as goal

pub make_step-requires : goal.make_step-requires
make_step-requires g c =
    let i = c.self.inside in
    record { ready = ready_is (g.C.Core.over i.core) (g.C.Core.history i.core) i.busy.items c.args.update (subst (λ (b : Shared). lowest_idle b.over b.history b.busy ≡ Some c.args.update) (sym c.self.view_is) c.requires.idle) }

pub mark_step-requires : goal.mark_step-requires
mark_step-requires g c =
    let i = c.self.inside in
    omega (arith, c.self.invariant.1, c.in_ok-reserve.ensures.ok, c.in_ok-reserve.ensures.len, c.len.ensures, i.busy.ok)

pub invariant_of-self-2 : goal.invariant_of-self-2
invariant_of-self-2 g c =
    let i = c.self.inside in
    let o = g.C.Core.over i.core in
    let H = g.C.Core.history i.core in
    let K = g.C.Core.history c.make_step.new.core in
    let n = i.given + 1 in
    let marks = c.mark_step.ensures.marks ∙ ap (λ l. l ++ step_marked c.args.seat n c.args.update) c.in_ok-reserve.ensures.items in
    let same = shared_more o _ H K i.opened i.marks.items _ (step_marked c.args.seat n c.args.update) i.busy.items i.busy.items i.given n c.in_ok-more.ensures.over marks in
    let p = step_made (shared o H i.opened i.marks.items i.busy.items i.given) _ _ c.args.seat c.args.update n K c.self.invariant.0 c.self.view_is
    (subst (λ (b : Shared). lowest_idle b.over b.history b.busy ≡ Some c.args.update) (sym c.self.view_is) c.requires.idle) refl c.in_ok-more.ensures.made same in
    let long = ap length c.mark_step.ensures.marks ∙ length-append c.reserve.new.self.items (step_marked c.args.seat n c.args.update) in
    (p.0, omega (arith, long, c.mark_step.ensures.room, c.in_ok-reserve.ensures.ok, c.in_ok-reserve.ensures.len, c.len.ensures, c.self.invariant.1, i.busy.ok))

pub returns-clause-step : goal.returns-clause-step
returns-clause-step g c =
    let i = c.self.inside in
    let o = g.C.Core.over i.core in
    let H = g.C.Core.history i.core in
    let K = g.C.Core.history c.make_step.new.core in
    let n = i.given + 1 in
    let marks = c.mark_step.ensures.marks ∙ ap (λ l. l ++ step_marked c.args.seat n c.args.update) c.in_ok-reserve.ensures.items in
    let same = shared_more o _ H K i.opened i.marks.items _ (step_marked c.args.seat n c.args.update) i.busy.items i.busy.items i.given n c.in_ok-more.ensures.over marks in
    (step_made (shared o H i.opened i.marks.items i.busy.items i.given) _ _ c.args.seat c.args.update n K c.self.invariant.0 c.self.view_is
    (subst (λ (b : Shared). lowest_idle b.over b.history b.busy ≡ Some c.args.update) (sym c.self.view_is) c.requires.idle) refl c.in_ok-more.ensures.made same).1
