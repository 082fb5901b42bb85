-- A disk that keeps the bytes that it was made of and its calls since, which determine what a crash at each moment may leave.
use Rattle.std.specs.Prelude.{◌≡◌, ℕ, ◌<◌, ◌≤◌, Bool, true, false, List, [], ◌∷◌, ◌++◌, length, take, slice_get, if◌then◌else◌, Result, Ok, Err}
use Rattle.std.specs.List.{list_any}
use Rattle.base_devices.specs.declared.disks.DiskRefusal.{DiskRefusal}
use Rattle.base_devices.specs.declared.disks.DiskRefusal.TheVariants.{Failed, Memory}
use Rattle.base_devices.specs.States.{State}
use Rattle.base_devices.specs.Logs.{Call, Load, Sync, Write}
use Rattle.base_devices.specs.Torn.{Range, covers, range_of, written}

-- the bytes that a read gives, those that it gave at the last sync that did not fail, and the ranges of the writes since, failed
-- or not
pub record Held : Type 0 where
  pub bytes : List ℕ
  pub stable : List ℕ
  pub open_ : List Range

-- the state before the first call
abbrev pub fresh : List ℕ → Held
fresh bytes = record { bytes = bytes; stable = bytes; open_ = [] }

-- the state after one more call
abbrev pub after : Held → Call → Held
after h (Load fault) = h
after h (Sync fault) = if fault then h else fresh h.bytes
after h (Write at bytes fault) = record {
  bytes = if fault then h.bytes else written at bytes h.bytes;
  stable = h.stable;
  open_ = h.open_ ++ range_of at bytes ∷ [];
}

abbrev pub after_all : Held → List Call → Held
after_all h [] = h
after_all h (call ∷ calls) = after_all (after h call) calls

-- The bytes are no shorter than the stable ones, and differ from them only beyond their end and inside the ranges.
pub record DiffersWithin (open_ : List Range) (stable bytes : List ℕ) : Type 0 where
  pub no_shorter : length stable ≤ length bytes
  pub elsewhere : (i : ℕ) → i < length stable → list_any (λ r. covers r i) open_ ≡ false
      → slice_get bytes i ≡ slice_get stable i

-- the bytes that a crash may leave: the stable ones or, if writes are open, bytes that differ from them only within these
abbrev pub may_leave : List Range → List ℕ → List ℕ → Type 0
may_leave [] stable bytes = bytes ≡ stable
may_leave (r ∷ open_) stable bytes = DiffersWithin (r ∷ open_) stable bytes

abbrev pub IsImage : Held → List ℕ → Type 0
IsImage h bytes = may_leave h.open_ h.stable bytes

-- the bytes that a disk was made of, all synced, and its calls since
pub record Trace : Type 0 where
  pub made_of : List ℕ
  pub calls : List Call

-- the trace with one more call
abbrev pub with_next : Trace → Call → Trace
with_next t call = record { made_of = t.made_of; calls = t.calls ++ call ∷ [] }

-- the state after k calls
abbrev pub held_at : Trace → ℕ → Held
held_at t k = after_all (fresh t.made_of) (take k t.calls)

-- the state now
abbrev pub held : Trace → Held
held t = after_all (fresh t.made_of) t.calls

-- the bytes that a read gives
abbrev pub bytes_of : Trace → List ℕ
bytes_of t = (held t).bytes

-- The disk, as its user sees it: the moment is the number of its calls.
abbrev pub state_with : Bool → ℕ → Trace → State
state_with reliable faults t = record { bytes = bytes_of t; now = length t.calls; image = λ k bytes. IsImage (held_at t k) bytes; faults = faults; reliable = reliable }

-- A call was made, and failed or not; or memory ran out, and it was not made.
abbrev pub IsMade : {T : Type 0} → (Bool → Call) → Trace → Trace → Result T DiskRefusal → Type 0
IsMade call old new (Ok x) = new ≡ with_next old (call false)
IsMade call old new (Err Failed) = new ≡ with_next old (call true)
IsMade call old new (Err Memory) = new ≡ old
