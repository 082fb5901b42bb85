-- The one simple command by which clap reads the words, and what clap then has of them.
use Rattle.std.specs.Prelude.{◌≡◌, ◌≤◌, ℕ, List, [], ◌∷◌, Some, Bool, true, false, codes, pos}
use Rattle.std.specs.Option.{option_map_or}
use Rattle.std.specs.Str.{bytes_eq}
use Rattle.std.specs.Str.Parse.{digits_value, without_leading_plus}
use Rattle.clap.specs.Words.{App, Kinds, Row, Rule, Text, fault_of, first_of, matches_of, new_app, new_rule, one_of}
use Rattle.clap.specs.declared.builder.ArgAction.TheVariants.{Set, SetTrue}
use Rattle.clap.specs.declared.builder.ValueParser.TheVariants as parser

-- a number from low to high, with a default
abbrev pub number_rule : Text → ℕ → ℕ → Text → Rule
number_rule name low high fallback = record (new_rule name) {
  long = Some name;
  parser = Some (parser.Signed (pos low) (pos high));
  action = Some Set;
  defaults = fallback ∷ [];
}

-- a text with no default
abbrev pub text_rule : Text → Rule
text_rule name = record (new_rule name) { long = Some name }

abbrev pub command_rule : Rule
command_rule = record (new_rule (codes "command")) { required = true }

abbrev pub workers_rule : Rule
workers_rule = number_rule (codes "workers") 1 16 (codes "4")

abbrev pub deps_rule : Rule
deps_rule = record (text_rule (codes "deps")) { defaults = codes "precise" ∷ [] }

abbrev pub steps_rule : Rule
steps_rule = number_rule (codes "steps") 1 300 (codes "100")

abbrev pub retries_rule : Rule
retries_rule = number_rule (codes "retries") 0 4 (codes "3")

abbrev pub count_rule : Rule
count_rule = number_rule (codes "count") 1 1000 (codes "60")

abbrev pub seed_rule : Rule
seed_rule = number_rule (codes "seed") 0 4294967295 (codes "1")

abbrev pub trace_rule : Rule
trace_rule = record (text_rule (codes "trace")) { action = Some SetTrue }

-- the arguments in their order
abbrev pub rules : List Rule
rules =
    command_rule ∷ workers_rule ∷ deps_rule ∷ steps_rule ∷ retries_rule ∷ text_rule (codes "tuple") ∷ count_rule ∷ seed_rule ∷ trace_rule
    ∷ text_rule (codes "query") ∷ []

-- the first arguments: the command's name and the options for the workers
abbrev pub work_rules : List Rule
work_rules = command_rule ∷ workers_rule ∷ deps_rule ∷ steps_rule ∷ retries_rule ∷ []

-- the command before its arguments: the words begin after the program's name, and it has a version
abbrev pub bare_app : App
bare_app = record { top = record (new_app (codes "youtopia")).top { no_binary_name = true; has_version = true }; subs = [] }

-- the command with these first arguments
abbrev pub work_app : App
work_app = record bare_app { top = record bare_app.top { rules = work_rules } }

-- the one simple command
abbrev pub youtopia_app : App
youtopia_app = record bare_app { top = record bare_app.top { rules = rules } }

-- the kinds of errors by which clap refuses the words, or answers with help or the version
abbrev pub faults_of : List Text → Kinds
faults_of words = fault_of youtopia_app words

-- the values that clap has read from the words
abbrev pub rows_at : List Text → List Row
rows_at words = matches_of youtopia_app words

-- the number that the option's text writes
abbrev pub number_at : Text → List Row → ℕ
number_at id rows = option_map_or (λ t. digits_value 10 (without_leading_plus t)) (one_of id rows) 0

-- whether the flag was given
abbrev pub flag_at : Text → List Row → Bool
flag_at id rows = option_map_or (λ t. bytes_eq t (codes "true")) (first_of id rows) false

-- n is the number that the option has, and lies in its range
abbrev pub NumberOf : ℕ → Text → ℕ → ℕ → List Text → Type 0
NumberOf n name low high words = (n ≡ number_at name (rows_at words)) × (low ≤ n) × (n ≤ high)
