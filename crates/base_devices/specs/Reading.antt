-- The bytes taken from a source that was not read to its end.
use Rattle.std.specs.Prelude.{◌≡◌, ℕ, ◌+◌, ◌≤◌, List, Option, length}
use Rattle.std.specs.Io.KnownBytes.{Consumes}
use Rattle.base_devices.specs.declared.whole.ReadRefusal.{ReadRefusal}
use Rattle.base_devices.specs.declared.whole.ReadRefusal.TheVariants.{ReadFault, TooLong, Memory}

-- the source gave some bytes, and their number has this property
abbrev pub Took : (ℕ → Type 0) → Option (List ℕ) → Option (List ℕ) → Type 0
Took many old new = (bytes : List ℕ) × Consumes old new bytes × many (length bytes)

-- an input is too long if one byte more than the limit was taken; before any other refusal no more than the limit was taken
abbrev pub TookBefore : ReadRefusal → ℕ → Option (List ℕ) → Option (List ℕ) → Type 0
TookBefore ReadFault limit old new = Took (λ count. count ≤ limit) old new
TookBefore TooLong limit old new = Took (λ count. count ≡ limit + 1) old new
TookBefore Memory limit old new = Took (λ count. count ≤ limit) old new
