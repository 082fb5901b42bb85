-- A session that was read, as one that the theorem on histories is about, and what the theorem says of it.
use Rattle.std.specs.Prelude.{◌≡◌, ℕ, ◌≤◌, true, List, [], map, length, None}
use Rattle.std.specs.List.{list_all}
use Rattle.def_machine.specs.Updates.{Update, Session, Settings}
use Rattle.def_machine.specs.Standings.{is_quiet}
use Rattle.def_machine.specs.Effects.{Entry}
use Rattle.def_machine.specs.Histories.{event_of}
use Rattle.def_machine.specs.Recorded.{is_recorded}
use Rattle.def_machine.specs.Serial.{first_stop}
use Rattle.def_chase.specs.Mappings.{Rule, AllHold}
use Rattle.def_steps.specs.Chase.{caused_chase}
use Rattle.def_steps.specs.Serial.{serial_result}
use Rattle.def_history.specs.Histories.{session_of, IsLegalHistory, left}
use Rattle.def_history.specs.Admissible.{IsAdmissible}
use Rattle.def_history.specs.AnyOrder.{tells}
use Rattle.def_language.specs.Sessions.{SessionData}
use Rattle.def_language.specs.Checks.{rules_of}
use Rattle.def_language.specs.Validity.{IsSession}
use Rattle.lang_session.specs.Base.{base_violation}
use Rattle.lang_session.specs.Meanings.{requests_in}

-- The rules of the session's mappings.
abbrev pub rules : SessionData → List Rule
rules s = rules_of s.mappings

-- The session as a history has it: its base, and its updates, each with its recorded answers. No update is handed in later.
abbrev pub history_session : (budget : ℕ) (s : SessionData) → Session (caused_chase (rules s) budget)
history_session budget s = session_of (rules s) budget s.base (requests_in s) []

-- The entries are a legal history over the session and leave these updates.
abbrev pub IsHistoryOf : (budget : ℕ) (c : Settings) (s : SessionData) → List (Entry (caused_chase (rules s) budget)) → List (Update (caused_chase (rules s) budget)) → Type 0
IsHistoryOf budget c s H us = IsLegalHistory (rules s) budget c (history_session budget s) H us

-- The history has come to its end: every update of the session is admitted, none was withdrawn, none answered live, and it is
-- quiet.
pub record IsWhole (budget : ℕ) (c : Settings) (s : SessionData) (H : List (Entry (caused_chase (rules s) budget))) (us : List (Update (caused_chase (rules s) budget))) : Type 0 where
  pub recorded : list_all is_recorded (map event_of H) ≡ true
  pub admitted : length us ≡ length s.updates
  pub quiet : is_quiet (caused_chase (rules s) budget) c us ≡ true

-- A session that passed its checks, and whose base violates no mapping, is one that the theorem on histories is about.
abbrev pub CheckedIsAdmissible : Type 0
CheckedIsAdmissible = (budget : ℕ) (s : SessionData) → IsSession s → base_violation s ≡ None → 1 ≤ budget → IsAdmissible (rules s) budget (history_session budget s)

-- In whatever order the updates were taken, a history that has come to its end has the result of the serial machine on the
-- session.
abbrev pub WholeIsSerial : Type 0
WholeIsSerial =
    (budget : ℕ) (c : Settings) (s : SessionData) (H : List (Entry (caused_chase (rules s) budget))) (us : List (Update (caused_chase (rules s) budget))) → IsSession s → base_violation s ≡ None → 1 ≤ budget
    → IsHistoryOf budget c s H us → IsWhole budget c s H us
    → serial_result (rules s) budget s.base (requests_in s) ≡ tells (rules s) budget (history_session budget s) us (first_stop (caused_chase (rules s) budget) 1 us)

-- At any moment, every mapping in force holds in what the committed updates leave.
abbrev pub MappingsHold : Type 0
MappingsHold =
    (budget : ℕ) (c : Settings) (s : SessionData) (H : List (Entry (caused_chase (rules s) budget))) (us : List (Update (caused_chase (rules s) budget))) → IsSession s → base_violation s ≡ None → 1 ≤ budget
    → IsHistoryOf budget c s H us → AllHold (rules s) (left (rules s) budget (history_session budget s) us)
