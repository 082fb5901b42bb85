-- What one call of the program does with its words, its input and its two outputs.
use Rattle.std.specs.Prelude.{◌≡◌, ◌⊎◌, ℕ, Bool, true, false, List, Some}
use Rattle.std.specs.Io.KnownBytes.{Keeps}
use Rattle.clap.specs.Words.{Text as Letters}
use Rattle.cmd_frame.specs.Devices.{Change, no_input, TakesNothing, Tells}
use Rattle.cmd_frame.specs.Outputs.{Meaning, Text}
use Rattle.cmd_frame.specs.Rows.{Row}
use Rattle.cmd_frame.specs.Statuses.{line_of}
use Rattle.cmd_frame.specs.declared.outputs.Ending.TheVariants.{Ended}
use Rattle.cmd_frame.specs.declared.failures.Failure.{Failure}
use Rattle.cmd_frame.specs.declared.failures.Failure.TheVariants as failures
use Rattle.cmd_frame.specs.declared.statuses.Status.{Status}
use Rattle.cmd_frame.specs.declared.statuses.Status.TheVariants.{Usage, OutOfMemory}
use Rattle.run_ask.specs.Written.{WrittenAsk, SpellsAsk}
use Rattle.cmd_plain.specs.Audited.{audited}
use Rattle.cmd_plain.specs.Asked.{asked}
use Rattle.cmd_plain.specs.Commands.{on_session, on_session_by, formatted, upgraded_text, checked}
use Rattle.cmd_plain.specs.Journaled.{journaled, recovering}
use Rattle.cmd_plain.specs.Runs.{ran, kept}
use Rattle.cmd_threads.specs.Drilling.{drilling}
use Rattle.cmd_plain.specs.Explained.{explained}
use Rattle.def_language.specs.Statements.{WrittenFact}
use Rattle.def_machine.specs.Updates as machine
use Rattle.lang_reader.specs.Facts.{SpellsFact}
use Rattle.cmd_threads.specs.Runs.{running}
use Rattle.cmd_words.specs.Alike.{text_of}
use Rattle.cmd_words.specs.Meaning.{Answers, AreInRange, is_refused}
use Rattle.cmd_words.specs.declared.help.TheConstants.{HELP, VERSION_LINE}
use Rattle.cmd_words.specs.declared.names.CommandName.{CommandName}
use Rattle.cmd_words.specs.declared.names.CommandName.TheVariants.{Run, Serial, Format, Check, Save, Upgrade, Ask, Explain, Audit, Drill, Journal, Recover}
use Rattle.cmd_words.specs.declared.names.Deps.{Deps}
use Rattle.cmd_words.specs.declared.names.Deps.TheVariants.{Coarse, Precise}
use Rattle.cmd_words.specs.declared.reading.Options.{Options}
use Rattle.cmd_words.specs.declared.reading.Request.{Request}
use Rattle.cmd_words.specs.declared.reading.Request.TheVariants.{Command, Help, Version}
use Rattle.youtopia.specs.declared.workers.ByWorkers.{ByWorkers}
use Rattle.youtopia.specs.declared.workers.ByWorkers.TheVariants as workers

-- the command that prints a fixed text, whatever its input
abbrev pub telling : List ℕ → Meaning
telling text input output = output ≡ Text Ended text

-- the source was not read
abbrev pub Unread : Change → Type 0
Unread source = Keeps source.bytes source.bytes_after × (source.faults ≡ source.faults_after)

-- nothing was done, for this reason: the source was not read, `out` took nothing, and `err` took the line of the failure
abbrev pub DoesNothing : Failure → Change → Change → Change → Type 0
DoesNothing failure source out err = Unread source × TakesNothing out × Tells err (line_of failure)

-- the option `query` spells the query q
abbrev pub AsksFor : Options → WrittenAsk → Type 0
AsksFor options q = (text : List ℕ) × (text_of options.query ≡ Some text) × SpellsAsk text q

-- the option `query` spells no query
abbrev pub LacksQuery : Options → Type 0
LacksQuery options = (q : WrittenAsk) → AsksFor options q → ⊥

-- the option `tuple` spells the fact
abbrev pub AsksWhy : Options → WrittenFact → Type 0
AsksWhy options fact = (text : List ℕ) × (text_of options.tuple ≡ Some text) × SpellsFact text fact

-- the option `tuple` spells no fact
abbrev pub LacksFact : Options → Type 0
LacksFact options = (fact : WrittenFact) → AsksWhy options fact → ⊥

-- the test of dependences that a word names
abbrev pub deps_of : Deps → machine.Deps
deps_of Coarse = machine.Coarse
deps_of Precise = machine.Precise

-- the settings that the options name
abbrev pub settings_in : Options → machine.Settings
settings_in options = record { retries = options.retries; deps = deps_of options.deps }

-- what each command with its options makes of an input; `ask` asks the query that its option spells, `explain` explains the fact,
-- `audit` judges by the settings
abbrev pub makes : CommandName → Options → Meaning
makes Run options = on_session_by (running options.trace options.steps (settings_in options))
makes Serial options = on_session (ran options.steps)
makes Format options = on_session formatted
makes Check options = on_session checked
makes Save options = on_session (kept options.steps)
makes Upgrade options = on_session upgraded_text
makes Audit options = audited options.steps (settings_in options)
makes Drill options = drilling options.steps options.count options.seed
makes Journal options = on_session (journaled options.steps)
makes Recover options = recovering
makes Explain options = λ input output. (fact : WrittenFact) × AsksWhy options fact × on_session (explained options.steps fact) input output
makes Ask options = λ input output. (q : WrittenAsk) × AsksFor options q × on_session (asked options.steps q) input output

-- the row of a status; if what the command needs is not given, the source was not read, and `out` took nothing
abbrev pub RowOfGiven : Type 0 → Status → Meaning → Change → Change → Change → Type 0
RowOfGiven Given status means source out err = Row status means source out err × (Given ⊎ (Unread source × TakesNothing out))

-- what a command with its options does: the row of the status holds; `ask` without a query and `explain` without a fact are
-- refused like wrong words, and read nothing; `drill` leaves the input alone
abbrev pub Does : CommandName → Options → Status → Change → Change → Change → Type 0
Does Ask options status source out err =
    ((status ≡ Usage) × LacksQuery options × DoesNothing failures.Usage source out err)
    ⊎ RowOfGiven ((q : WrittenAsk) × AsksFor options q) status (makes Ask options) source out err
Does Explain options status source out err =
    ((status ≡ Usage) × LacksFact options × DoesNothing failures.Usage source out err)
    ⊎ RowOfGiven ((fact : WrittenFact) × AsksWhy options fact) status (makes Explain options) source out err
Does Drill options status source out err = Row status (makes Drill options) no_input out err × Unread source
Does command options status source out err = Row status (makes command options) source out err

-- what the request asks for is done; help and the version leave the input alone
abbrev pub Performs : Request → Status → Change → Change → Change → Type 0
Performs (Command options) status source out err = Does options.command options status source out err
Performs Help status source out err = Row status (telling HELP.now) no_input out err × Unread source
Performs Version status source out err = Row status (telling VERSION_LINE.now) no_input out err × Unread source

-- what a command does without threads: what it does with them, but `run` and `drill` are refused like wrong words
abbrev pub DoesPlainly : CommandName → Options → Status → Change → Change → Change → Type 0
DoesPlainly Run options status source out err = (status ≡ Usage) × DoesNothing failures.Usage source out err
DoesPlainly Drill options status source out err = (status ≡ Usage) × DoesNothing failures.Usage source out err
DoesPlainly command options status source out err = Does command options status source out err

-- what the request asks for is done without threads
abbrev pub PerformsPlainly : Request → Status → Change → Change → Change → Type 0
PerformsPlainly (Command options) status source out err = DoesPlainly options.command options status source out err
PerformsPlainly Help status source out err = Performs Help status source out err
PerformsPlainly Version status source out err = Performs Version status source out err

-- The words are refused, with status 2; or memory runs out while they are read; or they ask for something, which is done as
-- `performs` says.
abbrev pub CallsBy : (Request → Status → Change → Change → Change → Type 0) → List Letters → Status → Change → Change → Change → Type 0
CallsBy performs words status source out err =
    ((is_refused words ≡ true) × (status ≡ Usage) × DoesNothing failures.Usage source out err)
    ⊎ (((status ≡ OutOfMemory) × DoesNothing failures.OutOfMemory source out err)
    ⊎ ((request : Request) × (is_refused words ≡ false) × Answers words request × performs request status source out err))

-- a call of the program
abbrev pub Calls : List Letters → Status → Change → Change → Change → Type 0
Calls = CallsBy Performs

-- a call of the program's part without threads
abbrev pub CallsPlainly : List Letters → Status → Change → Change → Change → Type 0
CallsPlainly = CallsBy PerformsPlainly

-- whether the command needs workers
abbrev pub is_by_workers : CommandName → Bool
is_by_workers Run = true
is_by_workers Drill = true
is_by_workers command = false

-- the words ask for this command, with these options
pub record AskFor (words : List Letters) (command : CommandName) (options : Options) : Type 0 where
  pub says : Answers words (Command options)
  pub named : options.command ≡ command
  pub ranges : AreInRange options

-- the words ask for this work
abbrev pub AskForWork : List Letters → ByWorkers → Type 0
AskForWork words (workers.Run options) = AskFor words Run options
AskForWork words (workers.Drill options) = AskFor words Drill options

-- the words ask for no command that needs workers
abbrev pub AskForNoWork : List Letters → Type 0
AskForNoWork words = (options : Options) → Answers words (Command options) → is_by_workers options.command ≡ false

-- the work is the command that the options name
abbrev pub IsNamedBy : Options → ByWorkers → Type 0
IsNamedBy options (workers.Run same) = (same ≡ options) × (options.command ≡ Run)
IsNamedBy options (workers.Drill same) = (same ≡ options) × (options.command ≡ Drill)

-- the numbers of the work's options lie in their ranges
abbrev pub HasRangesIn : ByWorkers → Type 0
HasRangesIn (workers.Run options) = AreInRange options
HasRangesIn (workers.Drill options) = AreInRange options

-- what is done for the work: what its command does with its options
abbrev pub DoesWork : ByWorkers → Status → Change → Change → Change → Type 0
DoesWork (workers.Run options) = Does Run options
DoesWork (workers.Drill options) = Does Drill options
