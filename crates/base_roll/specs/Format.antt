-- The format of a roll: records, each after an open gate, and a closed gate. Anything may stand before a roll and after it.
use Rattle.std.specs.Prelude.{◌≡◌, ℕ, ◌<◌, ◌^◌, List, [], ◌∷◌, ◌++◌, length}
use Rattle.std.specs.Int.{w32, to_be_bytes}

-- a frame: the payload's length in 4 bytes, the greatest byte first, and the payload
unfoldable pub framed : List ℕ → List ℕ
framed payload = to_be_bytes w32 (length payload) ++ payload

-- a record: an open gate, and the frame of the payload
abbrev pub opened : List ℕ → List ℕ
opened payload = 1 ∷ framed payload

abbrev pub records : List (List ℕ) → List ℕ
records [] = []
records (payload ∷ payloads) = opened payload ++ records payloads

-- the bytes before the gate of a roll: those before the roll, and its records
abbrev pub front : List ℕ → List (List ℕ) → List ℕ
front before payloads = before ++ records payloads

-- a roll with nothing after its gate
abbrev pub roll_text : List ℕ → List (List ℕ) → List ℕ
roll_text before payloads = front before payloads ++ (0 ∷ [])

-- the lengths of the payloads fit 4 bytes
abbrev pub AreShort : List (List ℕ) → Type 0
AreShort [] = Unit {0}
AreShort (payload ∷ payloads) = (length payload < 2 ^ 32) × AreShort payloads
