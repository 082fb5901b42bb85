-- The table of statuses: for each status what was read, and what `out` and `err` took.
use Rattle.std.specs.Prelude.{◌≡◌, ℕ, ◌<◌, ◌≤◌, ◌⊎◌, List, Result, Ok, Err}
use Rattle.cmd_frame.specs.Devices.{Change, Fails, Gives, GivesAll, Takes, TakesSome, TakesNothing, Tells}
use Rattle.cmd_frame.specs.Outputs.{Meaning, OutputView, Text, Refused, view_of}
use Rattle.cmd_frame.specs.Statuses.{status_of_ending, status_of_refusal, line_of}
use Rattle.cmd_frame.specs.declared.performing.TheConstants.{INPUT_LIMIT}
use Rattle.cmd_frame.specs.declared.outputs.Ending.{Ending}
use Rattle.cmd_frame.specs.declared.outputs.Ending.TheVariants as endings
use Rattle.cmd_frame.specs.declared.outputs.Refusal.{Refusal}
use Rattle.cmd_frame.specs.declared.outputs.Refusal.TheVariants as refusals
use Rattle.cmd_frame.specs.declared.outputs.Output.{Output}
use Rattle.cmd_frame.specs.declared.failures.Failure.{Failure}
use Rattle.cmd_frame.specs.declared.failures.Failure.TheVariants as failures
use Rattle.cmd_frame.specs.declared.statuses.Status.{Status}
use Rattle.cmd_frame.specs.declared.statuses.Status.TheVariants.{Ended, Stuck, Usage, SessionRefused, BaseViolates, ReadFault, WriteFault, OutOfMemory, TooLong, TooLarge, Refuted, QueryRefused, Damaged}

-- the command made a text of the whole input, and `out` took it; `err` took nothing
abbrev pub Ends : Ending → Meaning → Change → Change → Change → Type 0
Ends ending gives source out err =
    GivesAll INPUT_LIMIT source (λ input.
    (text : List ℕ) × gives input (Text ending text) × Takes out text)
    × TakesNothing err

-- the command refused the whole input, and `err` took the line that says why; `out` took nothing
abbrev pub Refuses : Refusal → Meaning → Change → Change → Change → Type 0
Refuses refusal gives source out err =
    GivesAll INPUT_LIMIT source (λ input.
    (line : List ℕ) × gives input (Refused refusal line) × Tells err line)
    × TakesNothing out

-- `out` failed: it took a prefix of the text that the command made of the whole input
abbrev pub FailsWriting : Meaning → Change → Change → Change → Type 0
FailsWriting gives source out err =
    GivesAll INPUT_LIMIT source (λ input.
    (ending : Ending) × (text : List ℕ) × gives input (Text ending text) × TakesSome out text)
    × Fails out × Tells err (line_of failures.WriteFault)

-- why a command has no output: the source failed, or memory ran out, before more than the limit was read; or more than the limit
-- was read
abbrev pub Lacks : Failure → Change → Type 0
Lacks failures.Usage source = ⊥
Lacks failures.ReadFault source = Gives source (λ count. count ≤ INPUT_LIMIT) × Fails source
Lacks failures.WriteFault source = ⊥
Lacks failures.OutOfMemory source = Gives source (λ count. count ≤ INPUT_LIMIT)
Lacks failures.TooLong source = Gives source (λ count. INPUT_LIMIT < count)

-- the command has no output for this reason, whose line `err` took; `out` took nothing
abbrev pub FailsBefore : Failure → Change → Change → Change → Type 0
FailsBefore failure source out err =
    Lacks failure source × TakesNothing out × Tells err (line_of failure)

-- the row of each status, for a command that makes outputs as `gives` says; its words were checked before
abbrev pub Row : Status → Meaning → Change → Change → Change → Type 0
Row Ended gives source out err = Ends endings.Ended gives source out err
Row Stuck gives source out err = Ends endings.Stuck gives source out err
Row Usage gives source out err = ⊥
Row SessionRefused gives source out err = Refuses refusals.SessionRefused gives source out err
Row BaseViolates gives source out err = Refuses refusals.BaseViolates gives source out err
Row ReadFault gives source out err = FailsBefore failures.ReadFault source out err
Row WriteFault gives source out err = FailsWriting gives source out err
Row OutOfMemory gives source out err = FailsBefore failures.OutOfMemory source out err
Row TooLong gives source out err = FailsBefore failures.TooLong source out err
Row TooLarge gives source out err = Refuses refusals.TooLarge gives source out err
Row Refuted gives source out err = Ends endings.Refuted gives source out err
Row QueryRefused gives source out err = Refuses refusals.QueryRefused gives source out err
Row Damaged gives source out err = Refuses refusals.Damaged gives source out err

-- the command made an output of the whole input, or it has none for a reason that shows in the
-- source
abbrev pub Makes : Result Output Failure → Meaning → Change → Type 0
Makes (Ok output) gives source =
    GivesAll INPUT_LIMIT source (λ input. gives input (view_of output))
Makes (Err failure) gives source = Lacks failure source

-- a text was written whole, or `out` failed and took a prefix of it; the line of a refusal was written to `err`
abbrev pub Delivers : Status → OutputView → Change → Change → Type 0
Delivers status (Text ending text) out err =
    ((status ≡ status_of_ending ending) × Takes out text × TakesNothing err)
    ⊎ ((status ≡ WriteFault) × Fails out × TakesSome out text
    × Tells err (line_of failures.WriteFault))
Delivers status (Refused refusal line) out err =
    (status ≡ status_of_refusal refusal) × TakesNothing out × Tells err line
