-- The effect of a write on the bytes of a disk, and of a crash during it.
use Rattle.std.specs.Prelude.{◌≡◌, ℕ, ◌+◌, ◌<◌, ◌≤◌, Bool, false, ◌&&◌, nat_le, nat_lt, List, ◌++◌, length, take, drop, slice_get}

-- a range of a disk: its first place and its number of bytes
pub record Range : Type 0 where
  pub at : ℕ
  pub count : ℕ

-- whether the place lies in the range
abbrev pub covers : Range → ℕ → Bool
covers r i = nat_le r.at i && nat_lt i (r.at + r.count)

-- the range of a write
abbrev pub range_of : ℕ → List ℕ → Range
range_of at bytes = record { at = at; count = length bytes }

-- the bytes after a write at a place: over the old bytes, and beyond their end
abbrev pub written : ℕ → List ℕ → List ℕ → List ℕ
written at bytes old = take at old ++ (bytes ++ drop (at + length bytes) old)

-- The bytes after a write that a crash cuts short: any bytes in the range and beyond the old end, all others as they were. The
-- bytes may end anywhere from the old end on.
pub record IsTorn (r : Range) (old new : List ℕ) : Type 0 where
  pub no_shorter : length old ≤ length new
  pub elsewhere : (i : ℕ) → i < length old → covers r i ≡ false → slice_get new i ≡ slice_get old i
