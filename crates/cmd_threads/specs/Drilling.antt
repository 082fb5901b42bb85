-- What the command `drill` makes.
use Rattle.std.specs.Prelude.{◌≡◌, ℕ}
use Rattle.cmd_frame.specs.Outputs.{Meaning, OutputView, Text}
use Rattle.cmd_plain.specs.Runs.{ending_by}
use Rattle.run_drill.specs.Drilled.{drilled}
use Rattle.def_language.specs.Sessions.{SessionData}
use Rattle.chase_update.specs.Results.{ResultTold}
use Rattle.lang_report.specs.Results.{serial_told}
use Rattle.run_drill.specs.Summaries.{summary_text}

-- the generated session, as a word that the prover unfolds only by name: its mappings are known, so that a run of it would be
-- computed
unfoldable pub generated : ℕ → ℕ → SessionData
generated count seed = drilled count seed

-- the serial machine's result on the generated session, with `steps` steps for each update
unfoldable pub drill_told : ℕ → ℕ → ℕ → ResultTold
drill_told steps count seed = serial_told steps (generated count seed)

-- the output for a run of the generated session with this result: its summary
unfoldable pub summary_output : ℕ → ℕ → ResultTold → OutputView
summary_output count seed told = Text (ending_by told.stop) (summary_text count seed told)

-- `drill` with `steps` steps for each update: the summary of the serial machine's run, whatever the input
unfoldable pub drilling : ℕ → ℕ → ℕ → Meaning
drilling steps count seed input output = output ≡ summary_output count seed (drill_told steps count seed)
