-- What the command that the options name does, with a known budget, is what the options ask for.
use Rattle.std.proofs.Common.{◌≡◌, ℕ, sym, subst}
use Rattle.cmd_frame.specs.Devices.{Change}
use Rattle.cmd_frame.specs.Rows.{Row}
use Rattle.cmd_frame.specs.declared.statuses.Status.{Status}
use Rattle.cmd_plain.specs.Journaled.{journaled}
use Rattle.cmd_plain.specs.Runs.{kept}
use Rattle.cmd_words.specs.declared.names.CommandName.{CommandName}
use Rattle.cmd_words.specs.declared.names.CommandName.TheVariants.{Save, Journal}
use Rattle.cmd_words.specs.declared.reading.Options.{Options}
use Rattle.cmd_plain.specs.Commands.{on_session}
use Rattle.youtopia.specs.Calls.{DoesPlainly}

pub saves : (options : Options) (status : Status) (n : ℕ) (source out err : Change) → options.command ≡ Save → n ≡ options.steps → Row status (on_session (kept n)) source out err → DoesPlainly options.command options status source out err
saves options status n source out err named budget row =
    subst (λ (k : CommandName). DoesPlainly k options status source out err) (sym named)
    (subst (λ (m : ℕ). Row status (on_session (kept m)) source out err) budget row)

pub journals : (options : Options) (status : Status) (n : ℕ) (source out err : Change) → options.command ≡ Journal → n ≡ options.steps → Row status (on_session (journaled n)) source out err → DoesPlainly options.command options status source out err
journals options status n source out err named budget row =
    subst (λ (k : CommandName). DoesPlainly k options status source out err) (sym named)
    (subst (λ (m : ℕ). Row status (on_session (journaled m)) source out err) budget row)
