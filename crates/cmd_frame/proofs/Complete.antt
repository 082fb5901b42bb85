-- An output of the whole input has the status that is due, unless `out` fails.
use Rattle.std.proofs.Common.{◌≡◌, ℕ, inl, inr, List, ◌++◌, Option, None, Some, sym, ap, ◌∙◌, subst, append-nil}
use Rattle.std.specs.Io.KnownBytes.{Consumes, IsAtEnd}
use Rattle.cmd_frame.specs.Completeness.{IsComplete}
use Rattle.cmd_frame.specs.Devices.{Change, GivesAll}
use Rattle.cmd_frame.specs.Outputs.{Meaning, OutputView, Text, Refused}
use Rattle.cmd_frame.specs.Rows.{Delivers}
use Rattle.cmd_frame.specs.Statuses.{status_of}
use Rattle.cmd_frame.specs.declared.performing.TheConstants.{INPUT_LIMIT}
use Rattle.cmd_frame.specs.declared.statuses.Status.{Status}

-- a source at its end gave the whole input
whole : (input given : List ℕ) (after : Option (List ℕ))
    → Consumes (Some input) after given → IsAtEnd after → given ≡ input
whole input given None gave end = absurd gave
whole input given (Some rest) gave end =
    sym (gave ∙ ap (λ l. given ++ l) end ∙ append-nil given)

-- the output is one of the input
due_status : (gives : Meaning) (source : Change) (input : List ℕ) (output : OutputView)
    → (due : Status) → source.bytes ≡ Some input → GivesAll INPUT_LIMIT source (λ given. gives given output)
    → ((o : OutputView) → gives input o → status_of o ≡ due) → status_of output ≡ due
due_status gives source input output due told all one =
    let gave = subst (λ b. Consumes b source.bytes_after all.0) told all.1 in
    one output (subst (λ l. gives l output) (whole input all.0 source.bytes_after gave all.2) all.4)

-- an output that is delivered has the status that is due
pub complete : (output : OutputView) (status : Status) (gives : Meaning) (source out err : Change)
    → GivesAll INPUT_LIMIT source (λ given. gives given output) → Delivers status output out err
    → IsComplete status gives source out
complete (Text ending text) status gives source out err all (inl written) =
    λ input due told short one reads writes.
    inl (written.0 ∙ due_status gives source input (Text ending text) due told all one)
complete (Text ending text) status gives source out err all (inr torn) =
    λ input due told short one reads writes. absurd (writes torn.1)
complete (Refused refusal line) status gives source out err all refused =
    λ input due told short one reads writes.
    inl (refused.0 ∙ due_status gives source input (Refused refusal line) due told all one)
