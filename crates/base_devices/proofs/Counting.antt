-- A call that was counted was made, and what failed has risen the count.
use Rattle.std.specs.Prelude.{Result, Ok, Err, IsErrOf}
use Rattle.std.proofs.Common.{◌≡◌, ℕ, ap, refl, List, [], ◌∷◌, length, Bool, true, false, arith}
use Rattle.base_devices.specs.Faults.{next_count, Rose}
use Rattle.base_devices.specs.declared.disks.DiskRefusal.{DiskRefusal}
use Rattle.base_devices.specs.declared.disks.DiskRefusal.TheVariants.{Failed, Memory}
use Rattle.base_devices.specs.Logs.{Call, Log, IsCounted, is_listed, never_fails}
use Rattle.base_devices.specs.Traces.{IsMade}
use Rattle.base_devices.specs.InMemory.{MemState, trace_of}

listed_some : (failing : List ℕ) (calls : ℕ) → is_listed failing calls ≡ true → never_fails failing ≡ false
listed_some [] calls e = absurd (let f : ⊥ = cc in f)
listed_some (number ∷ numbers) calls e = refl

module _ {T : Type 0} (call : Bool → Call) (old new : MemState) where
  pub made : new.made_of ≡ old.made_of → (r : Result T DiskRefusal) → IsCounted call old.log new.log r → IsMade call (trace_of old) (trace_of new) r
  made same (Ok x) c = λ i. record { made_of = same i; calls = (c.0 i).calls }
  made same (Err Failed) c = λ i. record { made_of = same i; calls = (c.0 i).calls }
  made same (Err Memory) c = λ i. record { made_of = same i; calls = (c i).calls }

  -- the numbers of the calls that fail stay
  pub as_reliable : (r : Result T DiskRefusal) → IsCounted call old.log new.log r → never_fails new.log.failing ≡ never_fails old.log.failing
  as_reliable (Ok x) c = ap (λ (log : Log). never_fails log.failing) c.0
  as_reliable (Err Failed) c = ap (λ (log : Log). never_fails log.failing) c.0
  as_reliable (Err Memory) c = ap (λ (log : Log). never_fails log.failing) c

  pub failing : (r : Result T DiskRefusal) → IsCounted call old.log new.log r → IsErrOf r Failed → Rose old.log.faults new.log.faults × (never_fails old.log.failing ≡ false)
  failing (Ok x) c h = absurd (let w : ⊥ = cc in w)
  failing (Err Failed) c h =
      let more : new.log.faults ≡ next_count old.log.faults = ap (λ (log : Log). log.faults) c.0 in
      (omega arith, listed_some old.log.failing (length old.log.calls) c.1)
  failing (Err Memory) c h = absurd (let w : ⊥ = cc in w)
