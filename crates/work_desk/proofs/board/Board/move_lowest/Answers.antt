use Rattle.std.proofs.Common.{◌≡◌, ◌∙◌, ap, sym, subst, Some}
use Rattle.work_desk.specs.Shared.{Shared}
use Rattle.work_desk.specs.Cores.{lowest_idle, lowest_waiting}
use Rattle.work_desk.proofs.board.Board.move_lowest.Goals as goal

pub deliver_first-requires : goal.deliver_first-requires
deliver_first-requires g c = record { waiting = subst (λ (z : Shared). lowest_waiting z.over z.history ≡ Some c.in-Some.update) c.self.view_is c.in-Some.ensures.lowest }

pub step_whole-requires : goal.step_whole-requires
step_whole-requires g c =
    let i = c.self.inside in
    record { idle = subst (λ (z : Shared). lowest_idle z.over z.history z.busy ≡ Some c.in-Some-lowest_idle.update) c.self.view_is (sym (c.lowest_idle.ensures ∙ ap (lowest_idle (g.C.Core.over i.core) (g.C.Core.history i.core)) c.as_slice.ensures.value) ∙ c.in-Some-lowest_idle.is) }
