-- The spots of cells: cells of one relation with the same value in the same column have the same spot.
use Rattle.std.specs.Prelude.{ℕ, ◌+◌, ◌*◌, ◌%◌, unsigned_abs, List, [], ◌∷◌, Option, Some, None}
use Rattle.def_chase.specs.Values.{Datum, Number, Text, Unknown, Fact}
use Rattle.set_versions.specs.Cells.{value_in}

-- A number that differs for most different words, computed byte by byte.
abbrev pub digest_from : ℕ → List ℕ → ℕ
digest_from n [] = n
digest_from n (b ∷ bs) = digest_from ((n * 31 + b) % 65521) bs

-- A number that differs for most different values.
abbrev pub digest : Datum → ℕ
digest (Number i) = unsigned_abs i
digest (Text w) = digest_from 0 w
digest (Unknown n) = n.update + n.place

-- The spot of relation r, column c and the value there, if there is one.
abbrev pub spot : ℕ → ℕ → Option Datum → ℕ
spot r c None = 0
spot r c (Some d) = (digest d % 251 + (c % 8 * 31 + r * 37)) % 256

-- The spot of a cell.
abbrev pub spot_of : ℕ × Fact → ℕ
spot_of x = spot x.1.relation x.0 (value_in x)
