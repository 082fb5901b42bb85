-- What `serial` writes.
use Rattle.std.specs.Prelude.{◌≡◌, ◌⊎◌, ℕ, List}
use Rattle.std.specs.Io.KnownBytes.{Consumes}
use Rattle.cmd_frame.specs.Devices.{Change, Takes}
use Rattle.cmd_frame.specs.Outputs.{Text}
use Rattle.cmd_frame.specs.Statuses.{status_of}
use Rattle.cmd_frame.specs.declared.statuses.Status.{Status}
use Rattle.cmd_frame.specs.declared.statuses.Status.TheVariants.{Ended, Stuck}
use Rattle.def_language.specs.Lines.{Spells}
use Rattle.def_language.specs.Sessions.{SessionData}
use Rattle.run_laws.specs.Kept.{InForceHold}
use Rattle.lang_report.specs.Results.{result_text, serial_told}
use Rattle.cmd_plain.specs.Runs.{ending_by, ran}

-- `serial` writes the result text of the serial machine's result, and every mapping in force holds in its repository
pub record WritesWhatHolds (steps : ℕ) (s : SessionData) : Type 0 where
  pub written : ran steps s ≡ Text (ending_by (serial_told steps s).stop) (result_text s (serial_told steps s))
  pub hold : InForceHold s (serial_told steps s)

-- `serial` ends, or stops at a question
abbrev pub EndsOrStops : ℕ → SessionData → Type 0
EndsOrStops steps s = (status_of (ran steps s) ≡ Ended) ⊎ (status_of (ran steps s) ≡ Stuck)

-- a call that wrote its text: it ended, or stopped at a question
abbrev pub HasWritten : Status → Type 0
HasWritten status = (status ≡ Ended) ⊎ (status ≡ Stuck)

-- The source gave the text of a session, `out` took the result text of the serial machine's result on it, and every mapping in
-- force holds in the repository of that result.
pub record WroteWhatHolds (steps : ℕ) (source out : Change) : Type 0 where
  pub input : List ℕ
  pub session : SessionData
  pub given : Consumes source.bytes source.bytes_after input
  pub spelled : Spells input session
  pub taken : Takes out (result_text session (serial_told steps session))
  pub hold : InForceHold session (serial_told steps session)
