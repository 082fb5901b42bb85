-- The answers to the calls that people make while updates go on.
use Rattle.std.specs.Prelude.{◌≡◌, ◌&&◌, ◌≤◌, ◌<◌, ℕ, suc, Bool, true, false, not, nat_lt, List, length, Option, Some, None, is_some, Result, Ok, Err}
use Rattle.core_entries.specs.Meanings.{standing_of}
use Rattle.def_history.specs.Cores.{grown, machine}
use Rattle.def_history.specs.CoreLaws.{handed}
use Rattle.def_machine.specs.Effects.{Admits, fits_question}
use Rattle.def_machine.specs.Standings.{Standing, Ready, Held, Paused, Ended, Withdrawn, is_paused}
use Rattle.def_chase.specs.Updates.{Choice, Operation}
use Rattle.base_types.specs.declared.updates.Choice.{Choice as ChoiceOfProgram}
use Rattle.base_types.specs.declared.updates.Update.{Update}
use Rattle.lang_session.specs.Admissible.{admits}
use Rattle.core_engine.specs.States.{State, question_at, updates_at}
use Rattle.core_engine.specs.declared.refusals.AdmitRefusal.{AdmitRefusal}
use Rattle.core_engine.specs.declared.refusals.AdmitRefusal.TheVariants as admit
use Rattle.core_engine.specs.declared.refusals.AnswerRefusal.{AnswerRefusal}
use Rattle.core_engine.specs.declared.refusals.AnswerRefusal.TheVariants as answer
use Rattle.core_engine.specs.declared.refusals.WithdrawRefusal.{WithdrawRefusal}
use Rattle.core_engine.specs.declared.refusals.WithdrawRefusal.TheVariants as withdraw

-- ---- answers

-- The standing is that of a paused update.
abbrev pub is_paused_in : Option Standing → Bool
is_paused_in None = false
is_paused_in (Some s) = is_paused s

-- The choice answers the question at which the update is paused.
abbrev pub fits_at : State → ℕ → Choice → Bool
fits_at s n c = fits_question (machine s.over) (question_at s n) c

-- Why an answer to an update with this standing was refused; the flag says whether the choice fits its question.
abbrev pub RefusesAnswer : Option Standing → Bool → AnswerRefusal → Type 0
RefusesAnswer s fits answer.NoSuchUpdate = s ≡ None
RefusesAnswer s fits (answer.NotPaused t) = (s ≡ Some (standing_of t)) × (is_paused (standing_of t) ≡ false)
RefusesAnswer s fits answer.Misfit = (is_paused_in s ≡ true) × (fits ≡ false)
RefusesAnswer s fits answer.Memory = (is_paused_in s ≡ true) × (fits ≡ true)

-- The answer to the call that answers an update with this standing.
abbrev pub AnswersAnswer : Option Standing → Bool → Result ℕ (AnswerRefusal × ChoiceOfProgram) → Type 0
AnswersAnswer s fits (Ok n) = (is_paused_in s ≡ true) × (fits ≡ true)
AnswersAnswer s fits (Err refused) = RefusesAnswer s fits refused.0

-- ---- withdrawals

-- The standing is that of a withdrawn update.
abbrev pub is_withdrawn : Standing → Bool
is_withdrawn Ready = false
is_withdrawn (Held c) = false
is_withdrawn (Paused l) = false
is_withdrawn (Ended o) = false
is_withdrawn Withdrawn = true

-- There is an update n with this standing, and it is neither committed nor withdrawn; c updates are committed.
abbrev pub is_live_in : Option Standing → ℕ → ℕ → Bool
is_live_in None c n = false
is_live_in (Some s) c n = nat_lt c n && not (is_withdrawn s)

-- The answer to the withdrawal of update n with this standing, if c updates are committed.
abbrev pub AnswersWithdrawal : Option Standing → ℕ → ℕ → Result ℕ WithdrawRefusal → Type 0
AnswersWithdrawal s c n (Ok m) = is_live_in s c n ≡ true
AnswersWithdrawal s c n (Err withdraw.NoSuchUpdate) = s ≡ None
AnswersWithdrawal s c n (Err (withdraw.Committed k)) = (is_some s ≡ true) × (n ≤ c) × (k ≡ c)
AnswersWithdrawal s c n (Err withdraw.Withdrawn) = (s ≡ Some Withdrawn) × (c < n)
AnswersWithdrawal s c n (Err withdraw.Memory) = is_live_in s c n ≡ true

-- ---- admissions

-- The operation may stand after the updates of the state: it fits the relations and names nulls of these updates alone.
abbrev pub admits_at : State → Operation → Bool
admits_at s op = admits s.relations (length (updates_at s)) op

-- One more update was handed in, which fits, and was admitted: the history is over it too, and has its entry after the others.
pub record HasAdmitted (old : State) (op : Operation) (new : State) : Type 0 where
  pub fits : admits_at old op ≡ true
  pub over : new.over ≡ handed old.over op
  pub grows : grown (handed old.over op) old.history Admits ≡ Some new.history
  pub relations : new.relations ≡ old.relations

-- Why one more update was refused, if there are n updates; the flag says whether it fits.
abbrev pub RefusesAdmission : ℕ → Bool → AdmitRefusal → Type 0
RefusesAdmission n fits admit.Full = 1000 ≤ n
RefusesAdmission n fits admit.Unfit = (n < 1000) × (fits ≡ false)
RefusesAdmission n fits admit.Memory = (n < 1000) × (fits ≡ true)

-- The answer to the admission of one more update, if there are n updates; the flag says whether it fits.
abbrev pub AnswersAdmission : ℕ → Bool → Result ℕ (AdmitRefusal × Update) → Type 0
AnswersAdmission n fits (Ok number) = (number ≡ suc n) × (n < 1000) × (fits ≡ true)
AnswersAdmission n fits (Err refused) = RefusesAdmission n fits refused.0
