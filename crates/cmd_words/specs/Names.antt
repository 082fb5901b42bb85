-- The names of commands and of kinds of dependencies.
use Rattle.std.specs.Prelude.{Bool, List, [], ◌∷◌, ◌++◌, codes}
use Rattle.std.specs.List.{list_any}
use Rattle.std.specs.Str.{bytes_eq}
use Rattle.clap.specs.Words.{Text}
use Rattle.cmd_words.specs.declared.names.CommandName.{CommandName}
use Rattle.cmd_words.specs.declared.names.CommandName.TheVariants.{Run, Serial, Format, Check, Save, Upgrade, Ask, Explain, Audit, Drill, Journal, Recover}
use Rattle.cmd_words.specs.declared.names.Deps.{Deps}
use Rattle.cmd_words.specs.declared.names.Deps.TheVariants.{Coarse, Precise}

-- the word of each command
abbrev pub command_text : CommandName → Text
command_text Run = codes "run"
command_text Serial = codes "serial"
command_text Format = codes "format"
command_text Check = codes "check"
command_text Save = codes "save"
command_text Upgrade = codes "upgrade"
command_text Ask = codes "ask"
command_text Explain = codes "explain"
command_text Audit = codes "audit"
command_text Drill = codes "drill"
command_text Journal = codes "journal"
command_text Recover = codes "recover"

-- the commands that run, read or keep a session, and the others
abbrev pub first_commands : List CommandName
first_commands = Run ∷ Serial ∷ Format ∷ Check ∷ Save ∷ Upgrade ∷ []

abbrev pub later_commands : List CommandName
later_commands = Ask ∷ Explain ∷ Audit ∷ Drill ∷ Journal ∷ Recover ∷ []

-- all commands
abbrev pub commands : List CommandName
commands = first_commands ++ later_commands

-- whether the text is the word of one of these commands
abbrev pub is_one_of : List CommandName → Text → Bool
is_one_of these text = list_any (λ command. bytes_eq text (command_text command)) these

-- whether the text is the word of a command
abbrev pub is_command : Text → Bool
is_command text = is_one_of commands text

-- the word of each kind of dependencies
abbrev pub deps_text : Deps → Text
deps_text Coarse = codes "coarse"
deps_text Precise = codes "precise"

-- whether the text is the word of a kind of dependencies
abbrev pub is_deps : Text → Bool
is_deps text = list_any (λ deps. bytes_eq text (deps_text deps)) (Coarse ∷ Precise ∷ [])
