-- A call that was counted was made, and what failed has risen the count.
use Rattle.std.specs.Prelude.{Result, Ok, Err, IsErrOf}
use Rattle.std.proofs.Common.{◌≡◌, ap, refl, Bool, true, false, arith}
use Rattle.base_devices.specs.Faults.{next_count, Rose}
use Rattle.base_devices.specs.declared.disks.DiskRefusal.{DiskRefusal}
use Rattle.base_devices.specs.declared.disks.DiskRefusal.TheVariants.{Failed, Memory}
use Rattle.base_devices.specs.Logs.{Call}
use Rattle.base_devices.specs.Traces.{IsMade}
use Rattle.ws_file.specs.Files.{Log, IsCounted, FileState, trace_of}

module _ {T : Type 0} (call : Bool → Call) (old new : FileState) where
  pub made : new.made_of ≡ old.made_of → (r : Result T DiskRefusal) → IsCounted call old.log new.log r → IsMade call (trace_of old) (trace_of new) r
  made same (Ok x) c = λ i. record { made_of = same i; calls = (c i).calls }
  made same (Err Failed) c = λ i. record { made_of = same i; calls = (c i).calls }
  made same (Err Memory) c = λ i. record { made_of = same i; calls = (c i).calls }

  pub failing : (r : Result T DiskRefusal) → IsCounted call old.log new.log r → IsErrOf r Failed → Rose old.log.faults new.log.faults × (◌≡◌ {A = Bool} false false)
  failing (Ok x) c h = absurd (let w : ⊥ = cc in w)
  failing (Err Failed) c h =
      let more : new.log.faults ≡ next_count old.log.faults = ap (λ (log : Log). log.faults) c in
      (omega arith, refl)
  failing (Err Memory) c h = absurd (let w : ⊥ = cc in w)
