use Rattle.std.specs.Prelude.{◌||◌}
use Rattle.std.specs.Str.{bytes_eq}
use Rattle.std.proofs.Common.{◌∙◌, ap₂}
use Rattle.std.proofs.lemmas.List.Folds.{list_any-append}
use Rattle.cmd_words.specs.Names.{command_text, first_commands, later_commands}
use Rattle.cmd_words.proofs.names.command_named.Goals as goal

pub returns-in-None-clause-none : goal.returns-in-None-clause-none
returns-in-None-clause-none c = λ none.
    list_any-append (λ command. bytes_eq c.args.text.now (command_text command)) first_commands later_commands
    ∙ ap₂ ◌||◌ (c.first_named.ensures.none c.in-None.is) (c.later_named.ensures.none none)
