-- Which status a run must have if no device fails.
use Rattle.std.specs.Prelude.{◌≡◌, ℕ, ◌≤◌, ◌⊎◌, List, Some, length}
use Rattle.cmd_frame.specs.Devices.{Change, Fails}
use Rattle.cmd_frame.specs.Outputs.{Meaning, OutputView}
use Rattle.cmd_frame.specs.Statuses.{status_of}
use Rattle.cmd_frame.specs.declared.performing.TheConstants.{INPUT_LIMIT}
use Rattle.cmd_frame.specs.declared.statuses.Status.{Status}
use Rattle.cmd_frame.specs.declared.statuses.Status.TheVariants.{OutOfMemory}

-- The source has this input within the limit, all outputs that the command may make of it have one status, and neither the source
-- nor `out` failed. Then the run ends with that status or for want of memory.
abbrev pub IsComplete : Status → Meaning → Change → Change → Type 0
IsComplete status gives source out =
    (input : List ℕ) (due : Status) → source.bytes ≡ Some input → length input ≤ INPUT_LIMIT
    → ((output : OutputView) → gives input output → status_of output ≡ due)
    → (Fails source → ⊥) → (Fails out → ⊥)
    → (status ≡ due) ⊎ (status ≡ OutOfMemory)
