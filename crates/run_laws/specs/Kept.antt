-- What `save` keeps of a session's run.
use Rattle.std.specs.Prelude.{◌≡◌, ◌≤◌, ℕ, true, false, List, Some, None, length, slice_get}
use Rattle.std.specs.List.{AllByRecursion}
use Rattle.def_chase.specs.Values.{Fact}
use Rattle.def_chase.specs.Mappings.{Holds}
use Rattle.def_language.specs.Lines.{Spells}
use Rattle.def_language.specs.Printing.{printed}
use Rattle.def_language.specs.Sessions.{SessionData, SessionMapping}
use Rattle.def_language.specs.Validity.{IsFact, IsSession}
use Rattle.chase_update.specs.Results.{ResultTold}
use Rattle.lang_session.specs.Base.{base_violation}
use Rattle.lang_report.specs.Results.{serial_told}
use Rattle.lang_report.specs.Saved.{is_too_large, saved, stays_in_force}

-- The repository that the serial machine leaves of a session, with a budget of steps for each update.
abbrev pub left_by : ℕ → SessionData → List Fact
left_by budget s = (serial_told budget s).repository

-- Every mapping that is in force at the end of the run, by its result, holds in the repository of the result.
abbrev pub InForceHold : SessionData → ResultTold → Type 0
InForceHold s told =
    (n : ℕ) (m : SessionMapping) → slice_get s.mappings n ≡ Some m → stays_in_force told.finishes m ≡ true → Holds m.rule told.repository

-- A valid session whose base meets its mappings, and a budget for its updates.
pub record IsRunnable (budget : ℕ) (s : SessionData) : Type 0 where
  pub session : IsSession s
  pub met : base_violation s ≡ None
  pub some : 1 ≤ budget
  pub most : budget ≤ 1000001

-- The session that is saved of the serial machine's run, with a budget of steps for each update.
abbrev pub saved_by : ℕ → SessionData → SessionData
saved_by budget s = saved s (serial_told budget s)

-- Every tuple that the run leaves is a tuple of one of the session's relations.
abbrev pub LeavesFacts : ℕ → SessionData → Type 0
LeavesFacts budget s = AllByRecursion (IsFact s.relations (length s.updates)) (left_by budget s)

-- The saved session is a session, if it is not too large.
abbrev pub SavesSession : ℕ → SessionData → Type 0
SavesSession budget s = is_too_large (saved_by budget s) ≡ false → IsSession (saved_by budget s)

-- The printed form of the saved session spells it, if it is not too large.
abbrev pub SavesSpelled : ℕ → SessionData → Type 0
SavesSpelled budget s = is_too_large (saved_by budget s) ≡ false → Spells (printed (saved_by budget s)) (saved_by budget s)
