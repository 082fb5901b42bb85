use Rattle.std.proofs.Common.{subst, sym, ◌≡◌, ℕ, Some}
use Rattle.def_machine.specs.Effects.{Steps}
use Rattle.def_machine.specs.Standings.{Ready}
use Rattle.core_engine.specs.Events.{HasMade}
use Rattle.core_engine.specs.Planned.{IsStepAt}
use Rattle.core_engine.specs.States.{State, standing_at}
use Rattle.core_engine.proofs.cores.Core.make_step.Goals as goal

pub next_plan-requires : goal.next_plan-requires
next_plan-requires c = record { ready = c.requires.ready }

pub install-requires-clause-ready : goal.install-requires-clause-ready
install-requires-clause-ready c =
    subst (λ (s : State). standing_at s c.in_ok-plan.plan.update ≡ Some Ready) (sym c.next_plan.ensures.same)
    (subst (λ (n : ℕ). standing_at c.args.self.now n ≡ Some Ready) (sym c.in_ok-plan.ensures.update) c.requires.ready)

pub install-requires-clause-step : goal.install-requires-clause-step
install-requires-clause-step c = subst (λ (s : State). IsStepAt s c.in_ok-plan.plan) (sym c.next_plan.ensures.same) c.in_ok-plan.ensures.step

pub returns-clause-made : goal.returns-clause-made
returns-clause-made c =
    subst (λ (s : State). HasMade s (Steps c.args.update) c.install.new.self) c.next_plan.ensures.same
    (subst (λ (n : ℕ). HasMade c.next_plan.new.self (Steps n) c.install.new.self) c.in_ok-plan.ensures.update c.in_ok-number.ensures.made)
