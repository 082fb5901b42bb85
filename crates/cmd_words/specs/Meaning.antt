-- What words ask for, and which are refused.
use Rattle.std.specs.Prelude.{◌≡◌, ◌≤◌, ◌&&◌, ◌||◌, not, Bool, true, false, List, [], ◌∷◌, Some, Result, Ok, Err, codes, option_map}
use Rattle.std.specs.List.{list_any}
use Rattle.std.specs.Option.{option_map_or}
use Rattle.std.specs.Str.{bytes_eq}
use Rattle.clap.specs.Walk.{is_empty}
use Rattle.clap.specs.Words.{Row, Text, first_of}
use Rattle.clap.specs.declared.error.kind.ErrorKind.{ErrorKind}
use Rattle.clap.specs.declared.error.kind.ErrorKind.TheVariants.{DisplayHelp, DisplayVersion, OutOfMemory}
use Rattle.cmd_words.specs.declared.reading.Options.{Options}
use Rattle.cmd_words.specs.declared.reading.Request.{Request}
use Rattle.cmd_words.specs.declared.reading.Request.TheVariants.{Command, Help, Version}
use Rattle.cmd_words.specs.declared.reading.WordsRefusal.{WordsRefusal}
use Rattle.cmd_words.specs.declared.reading.WordsRefusal.TheVariants.{Usage, Memory}
use Rattle.cmd_words.specs.Arguments.{NumberOf, faults_of, flag_at, rows_at}
use Rattle.cmd_words.specs.Names.{command_text, deps_text, is_command, is_deps}

-- the answer for an error of clap: help and the version are answers; every other error but want of memory is a refusal
abbrev pub answer_to : ErrorKind → Result Request WordsRefusal
answer_to DisplayHelp = Ok Help
answer_to DisplayVersion = Ok Version
answer_to OutOfMemory = Err Memory
answer_to _ = Err Usage

-- whether an error of clap refuses the words: a call for help or the version does not
abbrev pub refuses : ErrorKind → Bool
refuses DisplayHelp = false
refuses DisplayVersion = false
refuses _ = true

-- whether the positional is the word of a command
abbrev pub names_command : List Row → Bool
names_command rows = option_map_or is_command (first_of (codes "command") rows) false

-- whether the option `deps` has the word of a kind of dependencies
abbrev pub names_deps : List Row → Bool
names_deps rows = option_map_or is_deps (first_of (codes "deps") rows) false

-- whether the command and the kind of dependencies that the words name exist
abbrev pub can_be_done : List Row → Bool
can_be_done rows = names_command rows && names_deps rows

-- whether the words are refused: by clap, or, if clap takes them, because no such command or kind of dependencies exists
abbrev pub is_refused : List Text → Bool
is_refused words = list_any refuses (faults_of words)
    || (is_empty (faults_of words) && not (can_be_done (rows_at words)))

-- what words that name a command say: clap takes them, and each option has its value
pub record Says (words : List Text) (options : Options) : Type 0 where
  pub taken : faults_of words ≡ []
  pub command : first_of (codes "command") (rows_at words) ≡ Some (command_text options.command)
  pub deps : first_of (codes "deps") (rows_at words) ≡ Some (deps_text options.deps)
  pub workers : NumberOf options.workers (codes "workers") 1 16 words
  pub steps : NumberOf options.steps (codes "steps") 1 300 words
  pub retries : NumberOf options.retries (codes "retries") 0 4 words
  pub count : NumberOf options.count (codes "count") 1 1000 words
  pub seed : NumberOf options.seed (codes "seed") 0 4294967295 words
  pub tuple : option_map (λ text. text.now) options.tuple ≡ first_of (codes "tuple") (rows_at words)
  pub query : option_map (λ text. text.now) options.query ≡ first_of (codes "query") (rows_at words)
  pub trace : options.trace ≡ flag_at (codes "trace") (rows_at words)

-- what the words ask for: help or the version, if clap's one fault is that call; otherwise the command that they say
abbrev pub Answers : List Text → Request → Type 0
Answers words (Command options) = Says words options
Answers words Help = faults_of words ≡ DisplayHelp ∷ []
Answers words Version = faults_of words ≡ DisplayVersion ∷ []

-- the number options, but for the seed, lie in their ranges
pub record AreInRange (options : Options) : Type 0 where
  pub steps : (1 ≤ options.steps) × (options.steps ≤ 300)
  pub workers : (1 ≤ options.workers) × (options.workers ≤ 16)
  pub retries : options.retries ≤ 4
  pub count : (1 ≤ options.count) × (options.count ≤ 1000)

-- the numbers lie in their ranges, if a command is asked for
abbrev pub HasRanges : Request → Type 0
HasRanges (Command options) = AreInRange options
HasRanges Help = Unit {0}
HasRanges Version = Unit {0}
