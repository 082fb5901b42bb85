use Rattle.std.proofs.Common.{◌≡◌, ◌∙◌, ap, sym, subst, None}
use Rattle.work_desk.specs.Shared.{Shared}
use Rattle.work_desk.specs.Cores.{lowest_idle, lowest_waiting}
use Rattle.work_desk.specs.Turns.{least}
use Rattle.work_desk.specs.Marks.{shared}
use Rattle.work_desk.proofs.Boards.{idle_or_quiet, next_waits}
use Rattle.work_desk.proofs.board.Board.wait.Goals as goal

pub returns-in-Some-clause-next : goal.returns-in-Some-clause-next
returns-in-Some-clause-next g c =
    let i = c.self.inside in
    let b = shared (g.C.Core.over i.core) (g.C.Core.history i.core) i.opened i.marks.items i.busy.items i.given in
    λ seat. next_waits b _ seat c.lowest.result _ c.self.invariant.0 c.self.view_is
    (subst (λ (z : Shared). lowest_idle z.over z.history z.busy ≡ None) (sym c.self.view_is) c.requires.none)
    (subst (λ (z : Shared). lowest_waiting z.over z.history ≡ None) (sym c.self.view_is) c.requires.quiet)
    (c.lowest.ensures ∙ ap (least None) c.as_slice.ensures.value) (ap idle_or_quiet (sym c.in-Some.is))

pub returns-in-None-clause-next : goal.returns-in-None-clause-next
returns-in-None-clause-next g c =
    let i = c.self.inside in
    let b = shared (g.C.Core.over i.core) (g.C.Core.history i.core) i.opened i.marks.items i.busy.items i.given in
    λ seat. next_waits b _ seat c.lowest.result _ c.self.invariant.0 c.self.view_is
    (subst (λ (z : Shared). lowest_idle z.over z.history z.busy ≡ None) (sym c.self.view_is) c.requires.none)
    (subst (λ (z : Shared). lowest_waiting z.over z.history ≡ None) (sym c.self.view_is) c.requires.quiet)
    (c.lowest.ensures ∙ ap (least None) c.as_slice.ensures.value) (ap idle_or_quiet (sym c.in-None.is))
