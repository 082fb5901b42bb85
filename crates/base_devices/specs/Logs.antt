-- The calls of a disk in memory: the counted ones, and those that fail.
use Rattle.std.specs.Prelude.{◌≡◌, ℕ, Bool, true, false, List, [], ◌∷◌, ◌++◌, length, ◌==◌, Result, Ok, Err, if◌then◌else◌}
use Rattle.std.specs.List.{list_any}
use Rattle.base_devices.specs.Faults.{next_count}
use Rattle.base_devices.specs.declared.disks.DiskRefusal.{DiskRefusal}
use Rattle.base_devices.specs.declared.disks.DiskRefusal.TheVariants.{Failed, Memory}

-- a counted call, with whether it failed
pub data Call : Type 0 where
  Load : Bool → Call
  Sync : Bool → Call
  Write : ℕ → List ℕ → Bool → Call

-- The counted calls, the numbers of the calls that fail, and the number of calls that have failed. The first call has number 1.
pub record Log : Type 0 where
  pub calls : List Call
  pub failing : List ℕ
  pub faults : ℕ

-- the log with one more call, and whether it failed
abbrev pub with_call : Log → Call → Bool → Log
with_call log call fault =
    record { calls = log.calls ++ call ∷ []; failing = log.failing; faults = if fault then next_count log.faults else log.faults }

-- whether the call after `calls` calls must fail
abbrev pub is_listed : List ℕ → ℕ → Bool
is_listed failing calls = list_any (λ number. number == next_count calls) failing

-- whether no call fails
abbrev pub never_fails : List ℕ → Bool
never_fails [] = true
never_fails (number ∷ numbers) = false

-- whether the next call must fail
abbrev pub fails_next : Log → Bool
fails_next log = is_listed log.failing (length log.calls)

-- A call is counted, and fails exactly if its number is listed; or memory runs out, and it is not counted.
abbrev pub IsCounted : {T : Type 0} → (Bool → Call) → Log → Log → Result T DiskRefusal → Type 0
IsCounted call old new (Ok x) = (new ≡ with_call old (call false) false) × (fails_next old ≡ false)
IsCounted call old new (Err Failed) = (new ≡ with_call old (call true) true) × (fails_next old ≡ true)
IsCounted call old new (Err Memory) = new ≡ old
