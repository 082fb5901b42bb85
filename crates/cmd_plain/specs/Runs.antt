-- The outputs of the commands that run a session's updates.
use Rattle.std.specs.Prelude.{ℕ, List, Option, Some, None, codes, if◌then◌else◌}
use Rattle.cmd_frame.specs.Outputs.{OutputView, Text, Refused}
use Rattle.cmd_frame.specs.declared.outputs.Ending.{Ending}
use Rattle.cmd_frame.specs.declared.outputs.Ending.TheVariants.{Ended, Stuck}
use Rattle.cmd_frame.specs.declared.outputs.Refusal.TheVariants.{TooLarge}
use Rattle.def_language.specs.Printing.{printed}
use Rattle.def_language.specs.Sessions.{SessionData}
use Rattle.chase_update.specs.Results.{ResultTold, StopTold}
use Rattle.lang_report.specs.Results.{result_text, serial_told}
use Rattle.lang_report.specs.Saved.{is_too_large, saved}
use Rattle.lang_session.specs.Base.{base_violation}
use Rattle.cmd_plain.specs.Commands.{unless_violated}

-- how a command ends if its updates stopped at a question, or did not
abbrev pub ending_by : Option StopTold → Ending
ending_by None = Ended
ending_by (Some stop) = Stuck

-- the output of `serial` for a run: its result text
abbrev pub result_output : SessionData → ResultTold → OutputView
result_output s told = Text (ending_by told.stop) (result_text s told)

abbrev pub too_large_line : List ℕ
too_large_line = codes "youtopia: output too large\n"

-- the output of `save` for a run: the session that begins with what it left, unless that is too large
abbrev pub saved_output : SessionData → ResultTold → OutputView
saved_output s told =
    if is_too_large (saved s told) then Refused TooLarge too_large_line else Text (ending_by told.stop) (printed (saved s told))

-- `serial` with `steps` steps for each update: the result text of the serial machine's run, if the base meets the mappings
abbrev pub ran : ℕ → SessionData → OutputView
ran steps s = unless_violated s (result_output s (serial_told steps s)) (base_violation s)

-- `save` with `steps` steps for each update: the session that the run leaves, if the base meets the mappings
abbrev pub kept : ℕ → SessionData → OutputView
kept steps s = unless_violated s (saved_output s (serial_told steps s)) (base_violation s)
