-- What is told of the bytes that a disk gave.
use Rattle.std.specs.Prelude.{Result, Ok, Err}
use Rattle.std.proofs.Common.{◌≡◌, ℕ, subst, List}
use Rattle.base_devices.specs.States.{State}
use Rattle.run_journal.specs.declared.journals.Recovered.{Recovered}
use Rattle.run_journal.specs.declared.journals.RecoverFault.{RecoverFault}
use Rattle.run_journal.specs.declared.journals.RecoverFault.TheVariants as recovering
use Rattle.run_journal.specs.Answers.{IsRecovered, ReadTold, RecoverTold}
use Rattle.run_journal.specs.Damage.{IsDamagedAt}

pub told_of_disk : (before now : State) (bytes : List ℕ) → bytes ≡ before.bytes → (r : Result Recovered RecoverFault) → ReadTold bytes r → RecoverTold before now r
told_of_disk before now bytes e (Ok r) h = subst (λ b. IsRecovered b r) e h
told_of_disk before now bytes e (Err recovering.DiskFault) h = absurd h
told_of_disk before now bytes e (Err (recovering.Damaged place)) h = subst (λ b. IsDamagedAt b place) e h
told_of_disk before now bytes e (Err recovering.Memory) h = tt
