-- Which bytes have a roll after some first bytes, its records, and damage.
use Rattle.std.specs.Prelude.{◌≡◌, ℕ, ◌<◌, ◌^◌, ◌⊎◌, List, [], ◌∷◌, ◌++◌, length}
use Rattle.base_devices.specs.States.{State, IsSettled}
use Rattle.base_roll.specs.Format.{framed, front, AreShort}

-- the bytes are those before the roll, then these records, then the rest
pub record BeginsWith (before : List ℕ) (those : List (List ℕ)) (all rest : List ℕ) : Type 0 where
  pub short : AreShort those
  pub bytes : all ≡ front before those ++ rest

-- a closed gate, which is any byte except 1, and then any bytes
abbrev pub IsClosed : List ℕ → Type 0
IsClosed rest = (gate : ℕ) × (after : List ℕ) × (rest ≡ gate ∷ after) × (gate ≡ 1 → ⊥)

-- The bytes have a roll of these records after the first bytes: a closed gate stands after the records.
abbrev pub IsRoll : List ℕ → List (List ℕ) → List ℕ → Type 0
IsRoll before payloads bytes = (rest : List ℕ) × BeginsWith before payloads bytes rest × IsClosed rest

-- the place of the roll's gate
abbrev pub gate_of : List ℕ → List (List ℕ) → ℕ
gate_of before payloads = length (front before payloads)

-- a roll in hand: the place of its gate
pub record Hold : Type 0 where
  pub gate : ℕ

-- The roll in hand is the one on the disk: the disk has it with these records, and nothing is pending.
pub record IsAt (before : List ℕ) (payloads : List (List ℕ)) (disk : State) (hold : Hold) : Type 0 where
  pub roll : IsRoll before payloads disk.bytes
  pub settled : IsSettled disk
  pub gate : hold.gate ≡ gate_of before payloads

-- the roll in hand is the one on the disk, with some records
abbrev pub IsInHand : State → Hold → Type 0
IsInHand disk hold = (before : List ℕ) × (payloads : List (List ℕ)) × IsAt before payloads disk hold

-- ---- damage

-- the bytes do not begin with a whole frame
abbrev pub HasNoRecord : List ℕ → Type 0
HasNoRecord bytes = (payload rest : List ℕ) → length payload < 2 ^ 32 → bytes ≡ framed payload ++ rest → ⊥

-- the gate is missing, or it is open and no whole frame stands after it
abbrev pub IsBroken : List ℕ → Type 0
IsBroken rest = (rest ≡ []) ⊎ ((after : List ℕ) × (rest ≡ 1 ∷ after) × HasNoRecord after)
