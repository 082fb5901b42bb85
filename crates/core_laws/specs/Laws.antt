-- What turns do: they lower the work that is left. If all updates of a session are admitted, a drain leaves what the serial
-- machine leaves.
use Rattle.std.specs.Prelude.{◌≡◌, ℕ, suc, ◌≤◌, true, List, [], map, length, None, Some}
use Rattle.std.specs.List.{list_all}
use Rattle.def_machine.specs.Histories.{event_of}
use Rattle.def_machine.specs.Recorded.{is_recorded}
use Rattle.def_machine.specs.Serial.{first_stop}
use Rattle.def_machine.specs.Updates.{Settings}
use Rattle.def_chase.specs.Repository.{IsRepository}
use Rattle.def_steps.specs.Serial.{serial_result}
use Rattle.def_history.specs.AnyOrder.{tells}
use Rattle.def_history.specs.PlainEntries.{PlainEntry}
use Rattle.def_history.specs.Cores.{Ground, machine, session_over, entries_over, updates_after, IsLegalOver}
use Rattle.def_language.specs.Sessions.{SessionData}
use Rattle.def_language.specs.Checks.{rules_of}
use Rattle.def_language.specs.Validity.{IsSession}
use Rattle.lang_session.specs.Base.{base_violation}
use Rattle.lang_session.specs.Meanings.{requests_in}
use Rattle.core_laws.specs.Turns.{turned, after_turns, work_after, is_quiet_after}

-- The history's events are only admissions, steps and deliveries.
abbrev pub AreRecorded : Ground → List PlainEntry → Type 0
AreRecorded g H = list_all is_recorded (map event_of (entries_over g H)) ≡ true

-- What turns keep from a history to a later one.
pub record Keeps (g : Ground) (H H' : List PlainEntry) : Type 0 where
  pub legal : IsLegalOver g H'
  pub recorded : AreRecorded g H → AreRecorded g H'
  pub count : length (updates_after g H') ≡ length (updates_after g H)

-- A turn keeps what `Keeps` says, and leaves less work.
pub record IsTurn (g : Ground) (H H' : List PlainEntry) : Type 0 where
  pub keeps : Keeps g H H'
  pub less : suc (work_after g H') ≤ work_after g H

-- Each turn after a legal history keeps what `Keeps` says, and leaves less work.
abbrev pub TurnLaw : Type 0
TurnLaw = (g : Ground) (H H' : List PlainEntry) → 1 ≤ g.budget → IsRepository g.base → IsLegalOver g H → turned g H ≡ Some H' → IsTurn g H H'

-- Any number of turns keeps what `Keeps` says.
abbrev pub TurnsLaw : Type 0
TurnsLaw = (g : Ground) (n : ℕ) (H H' : List PlainEntry) → 1 ≤ g.budget → IsRepository g.base → IsLegalOver g H → after_turns g n H ≡ Some H' → Keeps g H H'

-- What the history of a session is over.
abbrev pub over : SessionData → ℕ → Settings → Ground
over s budget c = record { rules = rules_of s.mappings; budget = budget; settings = c; base = s.base; requests = requests_in s; later = [] }

-- A legal history over the session to which all its updates were admitted, with no live answer and no withdrawal.
pub record IsAdmitted (s : SessionData) (budget : ℕ) (c : Settings) (H : List PlainEntry) : Type 0 where
  pub legal : IsLegalOver (over s budget c) H
  pub recorded : AreRecorded (over s budget c) H
  pub all : length (updates_after (over s budget c) H) ≡ length s.updates

-- A drain of such a history leaves what the serial machine leaves.
abbrev pub DrainedLaw : Type 0
DrainedLaw =
    (s : SessionData) (budget : ℕ) (c : Settings) (n : ℕ) (H H' : List PlainEntry) → IsSession s → base_violation s ≡ None → IsRepository s.base → 1 ≤ budget → IsAdmitted s budget c H
    → after_turns (over s budget c) n H ≡ Some H' → is_quiet_after (over s budget c) H' ≡ true
    → serial_result (rules_of s.mappings) budget s.base (requests_in s)
    ≡ tells (rules_of s.mappings) budget (session_over (over s budget c)) (updates_after (over s budget c) H') (first_stop (machine (over s budget c)) 1 (updates_after (over s budget c) H'))
