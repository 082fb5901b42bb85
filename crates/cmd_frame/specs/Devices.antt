-- What a call did to a device: the bytes that it gave or took, and whether it failed.
use Rattle.std.specs.Prelude.{ℕ, ◌≤◌, List, [], Option, Some, length}
use Rattle.std.specs.Io.KnownBytes.{Appends, Consumes, IsAtEnd, Keeps}
use Rattle.base_devices.specs.Faults.{Rose}
use Rattle.base_devices.specs.Writing.{TakesAllOrPrefix, TakesPrefix}

-- what is known of a device's bytes, and how often it has failed, before and after a call
pub record Change : Type 0 where
  pub bytes : Option (List ℕ)
  pub bytes_after : Option (List ℕ)
  pub faults : ℕ
  pub faults_after : ℕ

-- the change of a device, from what is known of its bytes and its count of faults
abbrev pub change : {D : Type 0} → (D → Option (List ℕ)) → (D → ℕ) → D → D → Change
change told fault_count before after =
    record {
      bytes = told before;
      bytes_after = told after;
      faults = fault_count before;
      faults_after = fault_count after;
    }

-- a source without bytes, which did not fail
abbrev pub no_input : Change
no_input = record { bytes = Some []; bytes_after = Some []; faults = 0; faults_after = 0 }

-- the device failed: its count of faults rose, or is at its last value
abbrev pub Fails : Change → Type 0
Fails device = Rose device.faults device.faults_after

-- the source gave some bytes, and `many` holds of their number
abbrev pub Gives : Change → (ℕ → Type 0) → Type 0
Gives source many =
    (bytes : List ℕ) × Consumes source.bytes source.bytes_after bytes × many (length bytes)

-- the source gave all its bytes, no more than the limit, and `holds` holds of them
abbrev pub GivesAll : ℕ → Change → (List ℕ → Type 0) → Type 0
GivesAll limit source holds =
    (bytes : List ℕ) × Consumes source.bytes source.bytes_after bytes
    × IsAtEnd source.bytes_after × (length bytes ≤ limit) × holds bytes

-- the sink took these bytes
abbrev pub Takes : Change → List ℕ → Type 0
Takes sink bytes = Appends sink.bytes sink.bytes_after bytes

-- the sink took a prefix of these bytes
abbrev pub TakesSome : Change → List ℕ → Type 0
TakesSome sink bytes = TakesPrefix sink.bytes sink.bytes_after bytes

-- the sink took nothing
abbrev pub TakesNothing : Change → Type 0
TakesNothing sink = Keeps sink.bytes sink.bytes_after

-- the sink took the line, or failed and took a prefix of it
abbrev pub Tells : Change → List ℕ → Type 0
Tells sink line =
    TakesAllOrPrefix sink.bytes sink.bytes_after sink.faults sink.faults_after line
