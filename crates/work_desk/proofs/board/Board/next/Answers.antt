use Rattle.std.proofs.Common.{◌≡◌, ◌∙◌, ap, sym, subst, Some, None}
use Rattle.work_desk.specs.Shared.{Shared}
use Rattle.work_desk.specs.Cores.{lowest_idle, lowest_waiting}
use Rattle.work_desk.proofs.board.Board.next.Goals as goal

pub give-requires : goal.give-requires
give-requires g c =
    let i = c.self.inside in
    record { idle = subst (λ (z : Shared). lowest_idle z.over z.history z.busy ≡ Some c.in-Some.update) c.self.view_is (sym (c.lowest_idle.ensures ∙ ap (lowest_idle (g.C.Core.over i.core) (g.C.Core.history i.core)) c.as_slice.ensures.value) ∙ c.in-Some.is) }

pub deliver-requires-clause-none : goal.deliver-requires-clause-none
deliver-requires-clause-none g c =
    let i = c.self.inside in
    subst (λ (z : Shared). lowest_idle z.over z.history z.busy ≡ None) c.self.view_is (sym (c.lowest_idle.ensures ∙ ap (lowest_idle (g.C.Core.over i.core) (g.C.Core.history i.core)) c.as_slice.ensures.value) ∙ c.in_default.is)

pub deliver-requires-clause-waiting : goal.deliver-requires-clause-waiting
deliver-requires-clause-waiting g c = subst (λ (z : Shared). lowest_waiting z.over z.history ≡ Some c.in-Some-lowest_waiting.update) c.self.view_is (sym c.lowest_waiting.ensures ∙ c.in-Some-lowest_waiting.is)

pub wait-requires-clause-none : goal.wait-requires-clause-none
wait-requires-clause-none g c =
    let i = c.self.inside in
    subst (λ (z : Shared). lowest_idle z.over z.history z.busy ≡ None) c.self.view_is (sym (c.lowest_idle.ensures ∙ ap (lowest_idle (g.C.Core.over i.core) (g.C.Core.history i.core)) c.as_slice.ensures.value) ∙ c.in_default.is)

pub wait-requires-clause-quiet : goal.wait-requires-clause-quiet
wait-requires-clause-quiet g c = subst (λ (z : Shared). lowest_waiting z.over z.history ≡ None) c.self.view_is (sym c.lowest_waiting.ensures ∙ c.in_default-lowest_waiting.is)

pub returns-clause-next : goal.returns-clause-next
returns-clause-next g c = c.wait.ensures.next c.args.seat

pub returns-clause-ticket : goal.returns-clause-ticket
returns-clause-ticket g c = c.wait.ensures.ticket c.args.seat
