-- Requests that ask for the same thing.
use Rattle.std.specs.Prelude.{◌≡◌, ℕ, Bool, List, Option, option_map}
use Rattle.std.specs.Borrow.{Bor}
use Rattle.clap.specs.Words.{Text}
use Rattle.cmd_words.specs.declared.names.CommandName.{CommandName}
use Rattle.cmd_words.specs.declared.names.Deps.{Deps}
use Rattle.cmd_words.specs.declared.reading.Options.{Options}
use Rattle.cmd_words.specs.declared.reading.Request.{Request}
use Rattle.cmd_words.specs.declared.reading.Request.TheVariants.{Command, Help, Version}

-- the text of an option, if it is given
abbrev pub text_of : Option (Bor Text) → Option Text
text_of given = option_map (λ text. text.now) given

-- the same command, with the same value of each option
pub record AreAlike (options other : Options) : Type 0 where
  pub command : options.command ≡ other.command
  pub deps : options.deps ≡ other.deps
  pub workers : options.workers ≡ other.workers
  pub steps : options.steps ≡ other.steps
  pub retries : options.retries ≡ other.retries
  pub count : options.count ≡ other.count
  pub seed : options.seed ≡ other.seed
  pub tuple : text_of options.tuple ≡ text_of other.tuple
  pub query : text_of options.query ≡ text_of other.query
  pub trace : options.trace ≡ other.trace

-- both ask for help, for the version, or for one command with the same options
abbrev pub AskTheSame : Request → Request → Type 0
AskTheSame (Command options) (Command other) = AreAlike options other
AskTheSame Help Help = Unit {0}
AskTheSame Version Version = Unit {0}
AskTheSame _ _ = ⊥
