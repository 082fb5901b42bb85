-- The answers of an append, each with what holds then.
use Rattle.std.specs.Prelude.{◌≡◌, ℕ, ◌<◌, ◌≤◌, Result, Ok, Err}
use Rattle.base_devices.specs.States.{State, HasFailed, IsLeft}
use Rattle.base_roll.specs.declared.rolls.AppendFault as rolls
use Rattle.base_roll.specs.declared.rolls.AppendFault.TheVariants as refused
use Rattle.ws_seal.specs.declared.logs.AppendFault.{AppendFault}
use Rattle.ws_seal.specs.declared.logs.AppendFault.TheVariants as appending

-- the fault of the log for a refusal of the roll
abbrev pub append_fault : rolls.AppendFault → AppendFault
append_fault (refused.TooLarge roll size) = appending.TooLarge size
append_fault refused.DiskFault = appending.DiskFault
append_fault refused.DiskMemory = appending.DiskMemory
append_fault (refused.Memory roll) = appending.Memory

-- If the text is too large, or memory runs out before the first call, the log is unchanged. `DiskFault` comes only if the disk's
-- count of faults rose. After it and after `DiskMemory` the disk has bytes that a crash may leave.
abbrev pub AppendTold : {L T : Type 0} → L → L → State → State → Result T AppendFault → Type 0
AppendTold old new before now (Ok x) = Unit {0}
AppendTold old new before now (Err (appending.TooLarge size)) = new ≡ old
AppendTold old new before now (Err appending.DiskFault) = HasFailed before now × IsLeft now now.bytes
AppendTold old new before now (Err appending.DiskMemory) = IsLeft now now.bytes
AppendTold old new before now (Err appending.Memory) = new ≡ old
