use Rattle.std.proofs.Common.{◌∙◌, ap, subst, Result}
use Rattle.std.specs.Prelude.{IfOk}
use Rattle.def_memory.specs.declared.Memory.{Memory}
use Rattle.core_engine.specs.Planned.{PlanMeant}
use Rattle.work_session.specs.Steps.{IsStepOf}
use Rattle.core_engine.specs.States.{State}
use Rattle.work_session.proofs.Serving.{ready_here, snapshot_is}
use Rattle.work_session.proofs.seated.SeatedCore.next_plan.Goals as goal

pub next_plan-requires : goal.next_plan-requires
next_plan-requires c = record { ready = ready_here c.self.inside.core c.args.self.now c.self.view_is c.args.update c.requires.ready }

pub returns-clause-over : goal.returns-clause-over
returns-clause-over c = ap (λ (s : State). s.over) (c.next_plan.ensures.same ∙ c.self.view_is)

pub returns-clause-history : goal.returns-clause-history
returns-clause-history c = ap (λ (s : State). s.history) (c.next_plan.ensures.same ∙ c.self.view_is)

pub returns-clause-plan : goal.returns-clause-plan
returns-clause-plan c =
    subst (λ (r : Result PlanMeant Memory). IfOk r (λ p. IsStepOf p c.args.self.now.over c.args.self.now.history c.args.update)) c.in_ok-plan.was
    (snapshot_is c.self.inside.core c.args.self.now c.self.view_is c.next_plan.result c.args.update c.requires.ready c.next_plan.ensures.update c.next_plan.ensures.step)
