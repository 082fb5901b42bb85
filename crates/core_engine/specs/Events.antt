-- What the calls of a core do, and when they refuse.
use Rattle.std.specs.Prelude.{◌≡◌, ℕ, true, false, Option, Some, None, Result, Ok, Err, Bool}
use Rattle.def_machine.specs.Effects.{Event}
use Rattle.def_machine.specs.Standings.{Standing, Ready, Paused, Missing, is_ready, is_pending}
use Rattle.def_history.specs.Cores.{machine, grown}
use Rattle.core_entries.specs.Meanings.{standing_of}
use Rattle.core_engine.specs.States.{State}
use Rattle.core_engine.specs.declared.refusals.StepRefusal.{StepRefusal}
use Rattle.core_engine.specs.declared.refusals.StepRefusal.TheVariants as step
use Rattle.core_engine.specs.declared.refusals.DeliverRefusal.{DeliverRefusal}
use Rattle.core_engine.specs.declared.refusals.DeliverRefusal.TheVariants as deliver

-- The event was allowed: the history has its entry after the others, is over the same as before, and further updates have to fit
-- the same relations.
pub record HasMade (old : State) (e : Event (machine old.over)) (new : State) : Type 0 where
  pub grows : grown old.over old.history e ≡ Some new.history
  pub over : new.over ≡ old.over
  pub relations : new.relations ≡ old.relations

-- The answer to a step of an update with this standing.
abbrev pub AnswersStep : Option Standing → Result ℕ StepRefusal → Type 0
AnswersStep s (Ok n) = s ≡ Some Ready
AnswersStep s (Err step.NoSuchUpdate) = s ≡ None
AnswersStep s (Err (step.NotReady t)) = (s ≡ Some (standing_of t)) × (is_ready (standing_of t) ≡ false)
AnswersStep s (Err step.Memory) = s ≡ Some Ready

-- The answer to a delivery to an update with this standing; the flag says whether an answer waits for it.
abbrev pub AnswersDelivery : Option Standing → Bool → Result ℕ DeliverRefusal → Type 0
AnswersDelivery s waits (Ok n) = (s ≡ Some (Paused Missing)) × (waits ≡ true)
AnswersDelivery s waits (Err deliver.NoSuchUpdate) = s ≡ None
AnswersDelivery s waits (Err (deliver.NotPending t)) = (s ≡ Some (standing_of t)) × (is_pending (standing_of t) ≡ false)
AnswersDelivery s waits (Err deliver.NoAnswer) = (s ≡ Some (Paused Missing)) × (waits ≡ false)
AnswersDelivery s waits (Err deliver.Memory) = (s ≡ Some (Paused Missing)) × (waits ≡ true)
