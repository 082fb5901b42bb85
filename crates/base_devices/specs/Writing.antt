-- The bytes that a sink has taken after a write of a whole text.
use Rattle.std.specs.Prelude.{ℕ, ◌⊎◌, List, Option, take}
use Rattle.std.specs.Io.KnownBytes.{Appends}
use Rattle.base_devices.specs.Faults.{Rose}

-- the sink took a prefix of the bytes
abbrev pub TakesPrefix : Option (List ℕ) → Option (List ℕ) → List ℕ → Type 0
TakesPrefix old new bytes = (count : ℕ) × Appends old new (take count bytes)

-- the sink took all bytes, or a prefix of them if its count of faults rose
abbrev pub TakesAllOrPrefix : Option (List ℕ) → Option (List ℕ) → ℕ → ℕ → List ℕ → Type 0
TakesAllOrPrefix old new before now bytes =
    Appends old new bytes ⊎ (Rose before now × TakesPrefix old new bytes)
