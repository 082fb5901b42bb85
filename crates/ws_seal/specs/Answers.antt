-- The answers of a call that reads, each with what holds then.
use Rattle.std.specs.Prelude.{◌≡◌, ℕ, ◌<◌, ◌≤◌, ◌+◌, ◌^◌, ◌⊎◌, List, [], ◌++◌, map, Result, Ok, Err, length}
use Rattle.base_devices.specs.States.{State, HasFailed, IsLeft}
use Rattle.base_devices.specs.declared.disks.DiskRefusal.{DiskRefusal}
use Rattle.base_devices.specs.declared.disks.DiskRefusal.TheVariants as refusals
use Rattle.ws_seal.specs.declared.types.Texts.{Texts}
use Rattle.ws_seal.specs.declared.types.Damage.TheVariants.{At, NotAsWritten}
use Rattle.ws_seal.specs.declared.types.ReadFault.{ReadFault}
use Rattle.ws_seal.specs.declared.types.ReadFault.TheVariants as reading
use Rattle.ws_seal.specs.Logs.{IsHiddenAfter, IsRead, BreaksAt, IsForgedAt, IsLogRead, LogBreaksAt, IsLogForgedAt}

-- the texts of an answer
abbrev pub texts_of : Texts → List (List ℕ)
texts_of r = map (λ v. v.items) r.texts.items

-- the fault of reading for a refusal of the disk
abbrev pub read_fault : DiskRefusal → ReadFault
read_fault refusals.Failed = reading.DiskFault
read_fault refusals.Memory = reading.Memory

-- the answer at a closed gate, if these texts stand before it
abbrev pub GateTold : List ℕ → List ℕ → List (List ℕ) → ℕ → Result Texts ReadFault → Type 0
GateTold m after texts gate (Ok r) = (texts_of r ≡ texts) × (r.gate ≡ gate) × (r.mark.digits ≡ m) × (IsHiddenAfter m after → ⊥)
GateTold m after texts gate (Err reading.DiskFault) = ⊥
GateTold m after texts gate (Err (reading.Damaged (At place))) = (place ≡ gate) × IsHiddenAfter m after
GateTold m after texts gate (Err (reading.Damaged (NotAsWritten number))) = ⊥
GateTold m after texts gate (Err reading.Memory) = ⊥

-- the answer for the bytes after `before`, if the texts `earlier` were read already
abbrev pub AfterTold : List ℕ → List ℕ → List (List ℕ) → List ℕ → Result Texts ReadFault → Type 0
AfterTold before m earlier bytes (Ok r) = (texts : List (List ℕ)) × (texts_of r ≡ earlier ++ texts) × IsRead before m bytes texts r.gate r.mark.digits
AfterTold before m earlier bytes (Err reading.DiskFault) = ⊥
AfterTold before m earlier bytes (Err (reading.Damaged (At place))) = BreaksAt before m bytes place
AfterTold before m earlier bytes (Err (reading.Damaged (NotAsWritten number))) = (k : ℕ) × (number ≡ length earlier + k) × IsForgedAt before m bytes k
AfterTold before m earlier bytes (Err reading.Memory) = Unit {0}

-- the answer for bytes after a mark
abbrev pub TailTold : List ℕ → List ℕ → Result Texts ReadFault → Type 0
TailTold m bytes (Ok r) = IsRead [] m bytes (texts_of r) r.gate r.mark.digits
TailTold m bytes (Err reading.DiskFault) = ⊥
TailTold m bytes (Err (reading.Damaged (At place))) = BreaksAt [] m bytes place
TailTold m bytes (Err (reading.Damaged (NotAsWritten number))) = IsForgedAt [] m bytes number
TailTold m bytes (Err reading.Memory) = Unit {0}

-- the answer for bytes from the head on
abbrev pub LogTold : List ℕ → Result Texts ReadFault → Type 0
LogTold bytes (Ok r) = IsLogRead bytes (texts_of r) r.gate r.mark.digits
LogTold bytes (Err reading.DiskFault) = ⊥
LogTold bytes (Err (reading.Damaged (At place))) = LogBreaksAt bytes place
LogTold bytes (Err (reading.Damaged (NotAsWritten number))) = IsLogForgedAt bytes number
LogTold bytes (Err reading.Memory) = Unit {0}

-- the disk failed, or the answer is right for the bytes that it had
abbrev pub DiskTold : (List ℕ → Result Texts ReadFault → Type 0) → State → State → Result Texts ReadFault → Type 0
DiskTold told before now (Ok r) = told before.bytes (Ok r)
DiskTold told before now (Err reading.DiskFault) = HasFailed before now
DiskTold told before now (Err (reading.Damaged damage)) = told before.bytes (Err (reading.Damaged damage))
DiskTold told before now (Err reading.Memory) = Unit {0}
