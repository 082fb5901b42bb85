-- What the command `run` makes of a session.
use Rattle.std.specs.Prelude.{◌≡◌, ℕ, Bool, true, false, List, [], ◌++◌, Option, Some, None}
use Rattle.cmd_frame.specs.Outputs.{Meaning, OutputView, Text, Refused}
use Rattle.cmd_frame.specs.declared.outputs.Refusal.TheVariants.{BaseViolates}
use Rattle.cmd_plain.specs.Base.{base_line}
use Rattle.cmd_plain.specs.Commands.{on_session_by}
use Rattle.cmd_plain.specs.Runs.{ending_by}
use Rattle.def_language.specs.Sessions.{RelationSchema, SessionData}
use Rattle.def_history.specs.PlainEntries.{PlainEntry}
use Rattle.def_machine.specs.Updates.{Settings}
use Rattle.core_queue.specs.Settings.{settings_of}
use Rattle.lang_report.specs.Results.{result_text, serial_told}
use Rattle.work_session.specs.Runs.{IsRunOf}
use Rattle.lang_session.specs.Base.{Violated, base_violation}
use Rattle.audit_trace.specs.Traces.{trace_text}
use Rattle.cmd_threads.specs.declared.runs.Run.{Run}

-- the text of the entries if the trace is asked for, otherwise nothing
abbrev pub trace_part : Bool → List RelationSchema → List PlainEntry → List ℕ
trace_part true relations H = trace_text relations H
trace_part false relations H = []

-- the text for a run with this history: the result text of the serial machine's result, and the trace part
abbrev pub run_text : Bool → ℕ → SessionData → List PlainEntry → List ℕ
run_text trace steps s H = result_text s (serial_told steps s) ++ trace_part trace s.relations H

-- the output is this text, for some history that workers may make of the session
abbrev pub RunsTo : Bool → ℕ → Settings → SessionData → OutputView → Type 0
RunsTo trace steps c s output =
    (H : List PlainEntry) × IsRunOf s steps c H × (output ≡ Text (ending_by (serial_told steps s).stop) (run_text trace steps s H))

-- an output as `makes` says if the base violates no mapping, otherwise the refusal with the violation
abbrev pub UnlessViolated : SessionData → (OutputView → Type 0) → Option Violated → OutputView → Type 0
UnlessViolated s makes None output = makes output
UnlessViolated s makes (Some v) output = output ≡ Refused BaseViolates (base_line s.relations v)

-- `run` with or without its trace, with `steps` steps for each update and these settings
abbrev pub running : Bool → ℕ → Settings → SessionData → OutputView → Type 0
running trace steps c s output = UnlessViolated s (RunsTo trace steps c s) (base_violation s) output

-- what the command makes of an input
abbrev pub meaning : Run → Meaning
meaning r = on_session_by (running r.trace r.budget (settings_of r.crew.settings))
