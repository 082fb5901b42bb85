-- What one call of the program promises beside its rows: its status if nothing fails, and what its runs leave.
use Rattle.std.specs.Prelude.{◌≡◌, ◌⊎◌, ◌≤◌, ◌++◌, ℕ, List, Some, None, length}
use Rattle.clap.specs.Words.{Text as Letters}
use Rattle.run_ask.specs.Written.{WrittenAsk}
use Rattle.audit_claims.specs.Parts.{session_in}
use Rattle.cmd_frame.specs.Devices.{Change, Fails, Takes, no_input}
use Rattle.cmd_frame.specs.Outputs.{Meaning, OutputView}
use Rattle.cmd_frame.specs.Statuses.{status_of, status_of_ending}
use Rattle.cmd_frame.specs.declared.performing.TheConstants.{INPUT_LIMIT}
use Rattle.cmd_frame.specs.declared.statuses.Status.{Status}
use Rattle.cmd_frame.specs.declared.statuses.Status.TheVariants.{Ended, Stuck, OutOfMemory, TooLarge, Refuted, QueryRefused}
use Rattle.cmd_plain.specs.Runs.{ending_by}
use Rattle.cmd_plain.specs.Written.{HasWritten, WroteWhatHolds}
use Rattle.cmd_threads.specs.Drilling.{drill_told}
use Rattle.def_language.specs.Lines.{Spells}
use Rattle.def_language.specs.Sessions.{SessionData}
use Rattle.def_language.specs.Statements.{WrittenFact}
use Rattle.def_history.specs.PlainEntries.{PlainEntry}
use Rattle.run_laws.specs.Kept.{InForceHold}
use Rattle.lang_report.specs.Results.{result_text, serial_told}
use Rattle.cmd_threads.specs.Nulls.{NamesNulls}
use Rattle.cmd_threads.specs.Runs.{trace_part}
use Rattle.cmd_threads.specs.Written.{WroteRun}
use Rattle.work_session.specs.Runs.{IsRunOf}
use Rattle.lang_session.specs.Base.{base_violation}
use Rattle.run_drill.specs.Summaries.{summary_text}
use Rattle.cmd_words.specs.Meaning.{Answers}
use Rattle.cmd_words.specs.declared.help.TheConstants.{HELP, VERSION_LINE}
use Rattle.cmd_words.specs.declared.names.CommandName.{CommandName}
use Rattle.cmd_words.specs.declared.names.CommandName.TheVariants.{Run, Serial, Save, Ask, Explain, Audit, Drill, Journal, Recover}
use Rattle.cmd_words.specs.declared.reading.Options.{Options}
use Rattle.cmd_words.specs.declared.reading.Request.{Request}
use Rattle.cmd_words.specs.declared.reading.Request.TheVariants.{Command, Help, Version}
use Rattle.youtopia.specs.Calls.{AsksFor, AsksWhy, makes, settings_in, telling}

-- what a request makes of an input
abbrev pub due : Request → Meaning
due (Command options) = makes options.command options
due Help = telling HELP.now
due Version = telling VERSION_LINE.now

-- what a command reads: the source; but `drill` reads nothing
abbrev pub read_for : CommandName → Change → Change
read_for Drill source = no_input
read_for command source = source

-- what a request reads: what its command reads; help and the version read nothing
abbrev pub read_by : Request → Change → Change
read_by (Command options) source = read_for options.command source
read_by Help source = no_input
read_by Version source = no_input

-- nothing fails: the source has this input, no longer than an input may be, and neither the source nor `out` fails
pub record NothingFails (input : List ℕ) (source out : Change) : Type 0 where
  pub held : source.bytes ≡ Some input
  pub short : length input ≤ INPUT_LIMIT
  pub reads : Fails source → ⊥
  pub writes : Fails out → ⊥

-- If the words ask for something and nothing fails, the status is the one of the output that is due, or `OutOfMemory`.
abbrev pub Completes : List Letters → Status → Change → Change → Type 0
Completes words status source out =
    (request : Request) (input : List ℕ) (output : OutputView) → Answers words request → due request input output
    → NothingFails input (read_by request source) out → (status ≡ status_of output) ⊎ (status ≡ OutOfMemory)

-- the statuses with which a command may end on a session whose base meets its mappings
abbrev pub MayEnd : CommandName → Status → Type 0
MayEnd Run status = (status ≡ Ended) ⊎ (status ≡ Stuck)
MayEnd Serial status = (status ≡ Ended) ⊎ (status ≡ Stuck)
MayEnd Save status = (status ≡ Ended) ⊎ ((status ≡ Stuck) ⊎ (status ≡ TooLarge))
MayEnd Ask status = (status ≡ Ended) ⊎ ((status ≡ Stuck) ⊎ (status ≡ QueryRefused))
MayEnd Explain status = (status ≡ Ended) ⊎ (status ≡ Stuck)
MayEnd Audit status = (status ≡ Ended) ⊎ (status ≡ Refuted)
MayEnd Journal status = (status ≡ Ended) ⊎ ((status ≡ Stuck) ⊎ (status ≡ TooLarge))
MayEnd command status = status ≡ Ended

-- the commands that read a session: all but `recover`, which reads a journal, and `drill`, which reads nothing
abbrev pub ReadsSession : CommandName → Type 0
ReadsSession Recover = ⊥
ReadsSession Drill = ⊥
ReadsSession command = Unit {0}

-- the words of `ask` spell a query, and the words of `explain` spell a fact
abbrev pub HasQuery : CommandName → Options → Type 0
HasQuery Ask options = (q : WrittenAsk) × AsksFor options q
HasQuery Explain options = (fact : WrittenFact) × AsksWhy options fact
HasQuery command options = Unit {0}

-- the part of an input that is read as a session: for `audit` the session at its front, otherwise the whole input
abbrev pub session_for : CommandName → List ℕ → List ℕ
session_for Audit input = session_in input
session_for command input = input

-- If the words of a command on sessions are accepted, the session's base meets its mappings, and nothing fails, then the command
-- ends with such a status, or with `OutOfMemory`.
abbrev pub Serves : List Letters → Status → Change → Change → Type 0
Serves words status source out =
    (options : Options) (input : List ℕ) (s : SessionData) → Answers words (Command options) → ReadsSession options.command
    → HasQuery options.command options → Spells (session_for options.command input) s → base_violation s ≡ None → NothingFails input source out
    → MayEnd options.command status ⊎ (status ≡ OutOfMemory)

-- the commands that write the result of a run
abbrev pub IsRun : CommandName → Type 0
IsRun Run = Unit {0}
IsRun Serial = Unit {0}
IsRun command = ⊥

-- what these commands have written: the result text of the serial machine's result, in whose repository every mapping in force
-- holds; for `run` the trace follows, if it is asked for
abbrev pub Wrote : CommandName → Options → Change → Change → Type 0
Wrote Run options source out = WroteRun options.trace options.steps (settings_in options) source out
Wrote command options source out = WroteWhatHolds options.steps source out

-- If the words ask for `run` or `serial`, and the command ended or stopped, every mapping in force holds in the repository that
-- it wrote.
abbrev pub LeavesWhatHolds : List Letters → Status → Change → Change → Type 0
LeavesWhatHolds words status source out =
    (options : Options) → Answers words (Command options) → IsRun options.command → HasWritten status
    → Wrote options.command options source out

-- What `run` has written for a session whose base meets its mappings.
pub record WritesSerially (options : Options) (s : SessionData) (status : Status) (out : Change) : Type 0 where
  -- the history that the workers made: it is legal over the session and the words' settings, begins with the admissions of all
  -- updates, has steps and deliveries after them, and leaves a quiet state
  pub history : List PlainEntry
  pub made : IsRunOf s options.steps (settings_in options) history
  -- `out` has taken the result text of the serial machine on the session and, with `--trace`, then the text of that history
  pub taken : Takes out (result_text s (serial_told options.steps s) ++ trace_part options.trace s.relations history)
  -- it ended, or stopped where the serial machine stops
  pub ending : status ≡ status_of_ending (ending_by (serial_told options.steps s).stop)
  -- every mapping in force holds in the repository written
  pub hold : InForceHold s (serial_told options.steps s)
  -- each null there has the number of its update and its place, nulls of the base keep their names, and no two nulls of the run
  -- get one name
  pub nulls : NamesNulls s options.steps (settings_in options) history

-- The headline. The words of `run` are accepted, the input spells a session whose base meets its mappings, and nothing fails.
-- Then, whatever the schedule of the workers, this is written, or the status is `OutOfMemory`.
abbrev pub Headline : List Letters → Status → Change → Change → Type 0
Headline words status source out =
    (options : Options) (input : List ℕ) (s : SessionData) → Answers words (Command options) → options.command ≡ Run
    → Spells input s → base_violation s ≡ None → NothingFails input source out
    → WritesSerially options s status out ⊎ (status ≡ OutOfMemory)

-- What `drill` has written.
pub record WritesSummary (options : Options) (status : Status) (out : Change) : Type 0 where
  -- `out` has taken the summary of the serial machine's result on the generated session
  pub taken : Takes out (summary_text options.count options.seed (drill_told options.steps options.count options.seed))
  -- it ended, or stopped where the serial machine stops
  pub ending : status ≡ status_of_ending (ending_by (drill_told options.steps options.count options.seed).stop)

-- If the words of `drill` are accepted, and `out` does not fail, then, whatever the schedule of the workers, this is written, or
-- the status is `OutOfMemory`.
abbrev pub Drills : List Letters → Status → Change → Type 0
Drills words status out =
    (options : Options) → Answers words (Command options) → options.command ≡ Drill → (Fails out → ⊥)
    → WritesSummary options status out ⊎ (status ≡ OutOfMemory)
