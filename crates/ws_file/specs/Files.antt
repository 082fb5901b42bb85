-- A disk over a file, from a place on. The bytes that were read when the file was opened, and the calls of the system since then,
-- determine what a crash at each moment may leave.
use Rattle.std.specs.Prelude.{◌≡◌, ℕ, Bool, true, false, List, [], ◌∷◌, ◌++◌, length, Result, Ok, Err, if◌then◌else◌}
use Rattle.base_devices.specs.Faults.{next_count}
use Rattle.base_devices.specs.declared.disks.DiskRefusal.{DiskRefusal}
use Rattle.base_devices.specs.declared.disks.DiskRefusal.TheVariants.{Failed, Memory}
use Rattle.base_devices.specs.States.{State}
use Rattle.base_devices.specs.Logs.{Call}
use Rattle.base_devices.specs.Traces as traces
use Rattle.base_devices.specs.Traces.{Trace, state_with}

-- the counted calls, and the number of calls that failed since the file was opened
pub record Log : Type 0 where
  pub calls : List Call
  pub faults : ℕ

-- the log with one more call, which failed or not
abbrev pub with_call : Log → Call → Bool → Log
with_call log call fault = record { calls = log.calls ++ call ∷ []; faults = if fault then next_count log.faults else log.faults }

-- A call is counted, whether it failed or not. If memory runs out it is not made and not counted.
abbrev pub IsCounted : {T : Type 0} → (Bool → Call) → Log → Log → Result T DiskRefusal → Type 0
IsCounted call old new (Ok x) = new ≡ with_call old (call false) false
IsCounted call old new (Err Failed) = new ≡ with_call old (call true) true
IsCounted call old new (Err Memory) = new ≡ old

-- After a failed call no call succeeds: the file is given up.
abbrev pub IsGivenUp : {T : Type 0} → ℕ → Result T DiskRefusal → Type 0
IsGivenUp faults (Ok x) = faults ≡ 0
IsGivenUp faults (Err e) = Unit {0}

-- the place in the file at which the disk begins, the bytes that were read from there on, and the calls since then
pub record FileState : Type 0 where
  pub base : ℕ
  pub made_of : List ℕ
  pub log : Log

abbrev pub trace_of : FileState → Trace
trace_of f = record { made_of = f.made_of; calls = f.log.calls }

-- the bytes that a read returns
abbrev pub bytes_of : FileState → List ℕ
bytes_of f = traces.bytes_of (trace_of f)

-- a file, from the place `base` on, of which `bytes` were read and no call was made yet
abbrev pub just_opened : ℕ → List ℕ → FileState
just_opened base bytes = record { base = base; made_of = bytes; log = record { calls = []; faults = 0 } }

-- the disk, as its user sees it: it may fail at any call
abbrev pub state_of : FileState → State
state_of f = state_with false f.log.faults (trace_of f)
