-- A run whose trace is audited, and the verdict on it.
use Rattle.std.specs.Prelude.{◌≡◌, ◌≤◌, ◌++◌, ℕ, true, List, [], ◌∷◌, length}
use Rattle.std.specs.List.{AllByRecursion}
use Rattle.audit_claims.specs.Claimed.{IsPrintable}
use Rattle.audit_claims.specs.Parts.{from, is_end, lines_in}
use Rattle.cmd_frame.specs.Outputs.{OutputView}
use Rattle.cmd_plain.specs.Audited.{audited, verdict_output}
use Rattle.def_language.specs.Lines.{Spells}
use Rattle.def_language.specs.Validity.{IsSession}
use Rattle.cmd_threads.specs.Runs.{run_text}
use Rattle.work_session.specs.Runs.{IsWholeRun, Run}
use Rattle.audit_trace.specs.Traces.{trace_text}
use Rattle.audit_claims.specs.Verdicts.{IsVerdict, Trial, Verdict, Yes, trial_of}

-- A run of a valid session to its end, with 1 to 300 steps for each attempt and at most 4 retries, as the words of a call allow.
pub record IsCalled (r : Run) : Type 0 where
  pub valid : IsSession r.session
  pub some : 1 ≤ r.budget
  pub most : r.budget ≤ 300
  pub few : r.settings.retries ≤ 4
  pub whole : IsWholeRun r

-- what the trace of the run is judged by
abbrev pub trial_for : Run → Trial
trial_for r = trial_of r.session r.budget r.settings

-- the text of the run's history
abbrev pub trace_for : Run → List ℕ
trace_for r = trace_text r.session.relations r.history

-- the verdict yes, with all entries, and nothing left to do
abbrev pub said_of : Run → Verdict
said_of r = Yes (length r.history) true

-- The entries of the run can be printed.
abbrev pub HasPrintable : Run → Type 0
HasPrintable r = AllByRecursion (IsPrintable r.session.relations) r.history

-- The verdict v is one on the trace of the run.
abbrev pub IsJudged : Run → Verdict → Type 0
IsJudged r v = IsVerdict (trial_for r) (trace_for r) v

-- ---- what `run` reads and writes

-- The text ends with its first line that is an end, and with that line's line feed.
pub record IsClosed (text : List ℕ) : Type 0 where
  pub line : List ℕ
  pub last : from is_end (lines_in text) ≡ (line ++ 10 ∷ []) ∷ []

-- The input spells the session, and has nothing after the line feed of its `end`.
pub record IsInputOf (r : Run) (input : List ℕ) : Type 0 where
  pub spells : Spells input r.session
  pub closed : IsClosed input

-- the input, followed by what `run --trace` writes for it with this history
abbrev pub with_run : List ℕ → Run → List ℕ
with_run input r = input ++ run_text true r.budget r.session r.history

-- `audit`, with the steps and settings of the run, makes this output of the input and what follows it.
abbrev pub IsAudited : Run → List ℕ → OutputView → Type 0
IsAudited r input output = audited r.budget r.settings (with_run input r) output

-- the output with the verdict yes
abbrev pub output_of : Run → OutputView
output_of r = verdict_output (said_of r)
