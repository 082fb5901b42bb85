use Rattle.std.proofs.Common.{◌≡◌, subst, Some}
use Rattle.std.specs.Option.{IfSome}
use Rattle.core_engine.specs.States.{State}
use Rattle.work_desk.specs.Cores.{lowest_waiting}
use Rattle.work_session.proofs.seated.SeatedCore.first_waiting.Goals as goal

pub returns-in-AtOnce : goal.returns-in-AtOnce
returns-in-AtOnce c = record { lowest = subst (λ (s : State). IfSome c.next_deliverable.result (λ u. lowest_waiting s.over s.history ≡ Some u)) c.self.view_is c.next_deliverable.ensures.lowest }
