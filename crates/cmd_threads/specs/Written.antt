-- What the command `run` writes.
use Rattle.std.specs.Prelude.{ℕ, Bool, List}
use Rattle.std.specs.Io.KnownBytes.{Consumes, IsAtEnd}
use Rattle.cmd_frame.specs.Devices.{Change, Takes}
use Rattle.def_language.specs.Lines.{Spells}
use Rattle.def_language.specs.Sessions.{SessionData}
use Rattle.def_history.specs.PlainEntries.{PlainEntry}
use Rattle.run_laws.specs.Kept.{InForceHold}
use Rattle.def_machine.specs.Updates.{Settings}
use Rattle.lang_report.specs.Results.{serial_told}
use Rattle.cmd_threads.specs.Nulls.{NamesNulls}
use Rattle.cmd_threads.specs.Runs.{run_text}
use Rattle.work_session.specs.Runs.{IsRunOf}

-- The source gave the whole text of a session, and `out` took the text for a run of it. In the repository of the result every
-- mapping in force holds, and each null has a name of its own.
pub record WroteRun (trace : Bool) (steps : ℕ) (c : Settings) (source out : Change) : Type 0 where
  pub input : List ℕ
  pub session : SessionData
  pub given : Consumes source.bytes source.bytes_after input
  pub whole : IsAtEnd source.bytes_after
  pub spelled : Spells input session
  pub history : List PlainEntry
  pub made : IsRunOf session steps c history
  pub taken : Takes out (run_text trace steps session history)
  pub hold : InForceHold session (serial_told steps session)
  pub nulls : NamesNulls session steps c history
