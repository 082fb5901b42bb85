-- A disk as contracts see it, and the effects that a call may have.
use Rattle.std.specs.Prelude.{◌≡◌, ℕ, ◌≤◌, Bool, false, List, Result, IsErrOf}
use Rattle.base_devices.specs.Faults.{Rose}
use Rattle.base_devices.specs.declared.disks.DiskRefusal.{DiskRefusal}
use Rattle.base_devices.specs.declared.disks.DiskRefusal.TheVariants.{Failed, Memory}
use Rattle.base_devices.specs.Torn.{Range, IsTorn}

-- A disk at one moment: the bytes that a read gives, and the moment as a number. `image` says which bytes a crash at each moment
-- up to now might have left. Also the number of faults, and whether the disk never fails.
pub record State : Type 1 where
  pub bytes : List ℕ
  pub now : ℕ
  pub image : ℕ → List ℕ → Type 0
  pub faults : ℕ
  pub reliable : Bool

-- nothing is pending: a crash now leaves the bytes that a read gives
abbrev pub IsSettled : State → Type 0
IsSettled disk = (bytes : List ℕ) → disk.image disk.now bytes → bytes ≡ disk.bytes

-- Time goes on: a crash at an earlier moment might have left the same bytes as before.
pub record GoesOn (old new : State) : Type 0 where
  pub later : old.now ≤ new.now
  pub nothing_more : (k : ℕ) (bytes : List ℕ) → k ≤ old.now → new.image k bytes → old.image k bytes
  pub nothing_less : (k : ℕ) (bytes : List ℕ) → k ≤ old.now → old.image k bytes → new.image k bytes

-- A crash at any moment from the one state to the other leaves bytes with this property.
abbrev pub LeavesOnly : State → State → (List ℕ → Type 0) → Type 0
LeavesOnly old new holds = (k : ℕ) (bytes : List ℕ) → old.now ≤ k → k ≤ new.now → new.image k bytes → holds bytes

-- the bytes that a crash now might leave
abbrev pub IsLeft : State → List ℕ → Type 0
IsLeft disk bytes = disk.image disk.now bytes

-- bytes that a crash before a write might have left, with a part of the write
abbrev pub IsLeftTorn : State → Range → List ℕ → Type 0
IsLeftTorn disk r bytes = (before : List ℕ) × disk.image disk.now before × IsTorn r before bytes

-- the disk failed: its count of faults rose, and it is not reliable
abbrev pub HasFailed : State → State → Type 0
HasFailed old new = Rose old.faults new.faults × (old.reliable ≡ false)

-- A disk reports a fault only if it has failed. If memory runs out, bytes and moment are as before.
pub record IsRefused {T : Type 0} (old new : State) (result : Result T DiskRefusal) : Type 0 where
  pub later : old.faults ≤ new.faults
  pub reliable : new.reliable ≡ old.reliable
  pub failed : IsErrOf result Failed → HasFailed old new
  pub memory : IsErrOf result Memory → (new.bytes ≡ old.bytes) × (new.now ≡ old.now)
