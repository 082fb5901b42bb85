-- What the calls of a desk's core make, by those of the core.
use Rattle.std.proofs.Common.{◌≡◌, sym, subst, ℕ, ◌≤◌, Option, Some, None, Result, Ok, Err}
use Rattle.std.specs.Prelude.{IfOk, IfNone}
use Rattle.def_machine.specs.Effects.{Steps, Delivers}
use Rattle.def_machine.specs.Standings.{Ready}
use Rattle.def_chase.specs.Repository.{IsRepository}
use Rattle.def_history.specs.Cores.{IsLegalOver, grown}
use Rattle.work_desk.specs.Cores.{IsReady, IsDelivery, IsStep, StaysSince}
use Rattle.core_engine.specs.Events.{HasMade}
use Rattle.core_engine.specs.Planned.{PlanMeant, IsStepAt}
use Rattle.core_engine.specs.States.{State, standing_at}
use Rattle.work_session.specs.Steps.{IsStepOf, plan_stale_by}
use Rattle.work_session.proofs.Staying.{ready_stands, stayed}

module _ (a s : State) (same : a ≡ s) where
  pub ready_here : (n : ℕ) → IsReady s.over s.history n → standing_at a n ≡ Some Ready
  ready_here n r = subst (λ (x : State). standing_at x n ≡ Some Ready) (sym same) (ready_stands s n r)

  -- A snapshot or a plan that was made of a ready update is its step.
  pub snapshot_is : {E : Type 0} (r : Result PlanMeant E) (n : ℕ) → IsReady s.over s.history n → IfOk r (λ p. p.update ≡ n) → IfOk r (IsStepAt a) → IfOk r (λ p. IsStepOf p s.over s.history n)
  snapshot_is (Ok p) n ready number step = record { update = number; ready = ready; step = subst (λ (x : State). IsStepAt x p) same step }
  snapshot_is (Err e) n ready number step = tt

  pub plan_ready : (p : PlanMeant) → (n : ℕ) × IsStepOf p s.over s.history n → standing_at a p.update ≡ Some Ready
  plan_ready p i = ready_here p.update (subst (IsReady s.over s.history) (sym i.1.update) i.1.ready)

  pub plan_step : (p : PlanMeant) → (n : ℕ) × IsStepOf p s.over s.history n → IsStepAt a p
  plan_step p i = subst (λ (x : State). IsStepAt x p) (sym same) i.1.step

  -- The step of the plan is that of the update which it is of.
  pub plan_made : (b : State) (p : PlanMeant) → HasMade a (Steps p.update) b → (n : ℕ) → IsStepOf p s.over s.history n → IsStep s.over s.history n b.history
  plan_made b p m n i =
      subst (λ k. grown s.over s.history (Steps k) ≡ Some b.history) i.update
      (subst (λ (x : State). grown x.over x.history (Steps p.update) ≡ Some b.history) same m.grows)

  -- A delivery that was made is one.
  pub delivered : (b : State) (n : ℕ) → HasMade a (Delivers n) b → IsDelivery s.over s.history n b.history
  delivered b n m = subst (λ (x : State). grown x.over x.history (Delivers n) ≡ Some b.history) same m.grows

  -- If no later entry makes it stale, a plan stays the step.
  pub stays_unless : (o : Option ℕ) (p : PlanMeant) (n : ℕ) → 1 ≤ a.over.budget → IsRepository a.over.base → IsLegalOver a.over a.history → o ≡ plan_stale_by p a.over a.history n
      → IfNone o (StaysSince (IsStepOf p) s.over s.history n)
  stays_unless None p n some sorted legal first = λ m w.
      subst (λ (x : State). StaysSince (IsStepOf p) x.over x.history n) same (λ k v. stayed a.over a.history p n k some sorted legal (sym first) v) m w
  stays_unless (Some e) p n some sorted legal first = tt
