-- What a run of a session to its end comes to.
use Rattle.std.specs.Prelude.{◌≡◌, ℕ, Bool, true, false, List, ◌++◌, length, None}
use Rattle.std.specs.List.{list_all}
use Rattle.def_machine.specs.Updates.{Settings}
use Rattle.def_history.specs.PlainEntries.{PlainEntry, WasAdmitted, WasStepped, WasDelivered, WasAnswered, WasWithdrawn}
use Rattle.def_history.specs.Cores.{IsLegalOver}
use Rattle.def_language.specs.Sessions.{SessionData}
use Rattle.def_language.specs.Validity.{IsSession}
use Rattle.lang_session.specs.Base.{base_violation}
use Rattle.core_engine.specs.States.{State, ground_of, admissions_from, is_quiet_after}

-- A step or a delivery.
abbrev pub is_move : PlainEntry → Bool
is_move (WasAdmitted i) = false
is_move (WasStepped e) = true
is_move (WasDelivered e) = true
is_move (WasAnswered e) = false
is_move (WasWithdrawn e) = false

-- The entries are the history of a run of the session to its end: a legal history that begins with the admissions of all its
-- updates, goes on by steps and deliveries alone, and ends quiet.
pub record IsRunOf (s : SessionData) (budget : ℕ) (c : Settings) (H : List PlainEntry) : Type 0 where
  pub legal : IsLegalOver (ground_of s budget c) H
  pub moves : List PlainEntry
  pub begins : H ≡ admissions_from 1 (length s.updates) ++ moves
  pub alone : list_all is_move moves ≡ true
  pub quiet : is_quiet_after (ground_of s budget c) H ≡ true

-- A session that was run, with the budget of each update, the settings, and the entries of its history.
pub record Run : Type 0 where
  pub session : SessionData
  pub budget : ℕ
  pub settings : Settings
  pub history : List PlainEntry

-- The history is the one of a run of the session to its end.
abbrev pub IsWholeRun : Run → Type 0
IsWholeRun r = IsRunOf r.session r.budget r.settings r.history

-- The core is at the end of a run of a session whose base violates no mapping.
pub record IsWorked (s : SessionData) (budget : ℕ) (c : Settings) (core : State) : Type 0 where
  pub valid : IsSession s
  pub met : base_violation s ≡ None
  pub over : core.over ≡ ground_of s budget c
  pub run : IsRunOf s budget c core.history
