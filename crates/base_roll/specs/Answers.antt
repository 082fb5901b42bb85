-- When each answer of an append comes, and its effect.
use Rattle.std.specs.Prelude.{◌≡◌, ℕ, ◌+◌, ◌<◌, ◌≤◌, ◌^◌, ◌⊎◌, Result, Ok, Err}
use Rattle.base_devices.specs.States.{State, HasFailed, IsLeft}
use Rattle.base_roll.specs.declared.appending.TheConstants.{PAYLOAD_LIMIT}
use Rattle.base_roll.specs.declared.rolls.AppendFault.{AppendFault}
use Rattle.base_roll.specs.declared.rolls.AppendFault.TheVariants as appending
use Rattle.base_roll.specs.Rolls.{Hold}

-- a payload has too many bytes, or the places after it would reach 2 ^ 64
abbrev pub IsTooLarge : Hold → ℕ → Type 0
IsTooLarge roll size = (PAYLOAD_LIMIT < size) ⊎ (2 ^ 64 ≤ roll.gate + size + 6)

-- The answer to an append of a record of `size` bytes. If the record is too large, the roll and the disk are unchanged. A fault
-- comes only if the disk's count of faults rose; a read then gives bytes that a crash may leave.
abbrev pub AppendTold : {D : Type 0} → Hold → ℕ → D → D → State → State → Result Hold AppendFault → Type 0
AppendTold roll size old new before now (Ok next) = size ≤ PAYLOAD_LIMIT
AppendTold roll size old new before now (Err (appending.TooLarge same bytes)) = (same ≡ roll) × (bytes ≡ size) × IsTooLarge roll size × (new ≡ old)
AppendTold roll size old new before now (Err appending.DiskFault) = (size ≤ PAYLOAD_LIMIT) × HasFailed before now × IsLeft now now.bytes
AppendTold roll size old new before now (Err appending.DiskMemory) = (size ≤ PAYLOAD_LIMIT) × IsLeft now now.bytes
AppendTold roll size old new before now (Err (appending.Memory same)) = (same ≡ roll) × (new ≡ old)
