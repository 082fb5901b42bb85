-- The spots on which values fall, and sets of them.
use Rattle.std.specs.Prelude.{◌≡◌, ℕ, suc, ◌+◌, ◌*◌, ◌/◌, ◌%◌, ◌==◌, unsigned_abs, Bool, true, false, ◌&&◌, if◌then◌else◌, List, [], ◌∷◌}
use Rattle.std.specs.Int.{bit_at}
use Rattle.def_chase.specs.Specific.{is_constant}
use Rattle.def_chase.specs.Values.{Datum, Number, Text, Unknown, Fact}
use Rattle.core_conflict.specs.declared.signatures.Signature.{Signature}

-- The spot is one of the set: its low bit and its high bit are both set.
abbrev pub has_spot : Signature → ℕ → Bool
has_spot s k = (bit_at s.low (k / 128) == 1) && (bit_at s.high (k % 128) == 1)

-- The second set has the spots of the first.
abbrev pub IsWithin : Signature → Signature → Type 0
IsWithin s t = (k : ℕ) → has_spot s k ≡ true → has_spot t k ≡ true

-- The sets have no spot in common.
abbrev pub AreApart : Signature → Signature → Type 0
AreApart s t = (k : ℕ) → has_spot s k ≡ true → has_spot t k ≡ false

-- A number that differs between most words, computed byte by byte.
abbrev pub digest_from : ℕ → List ℕ → ℕ
digest_from n [] = n
digest_from n (b ∷ bs) = digest_from ((n * 31 + b) % 65521) bs

-- A number that differs between most values.
abbrev pub digest : Datum → ℕ
digest (Number i) = unsigned_abs i
digest (Text w) = digest_from 0 w
digest (Unknown n) = n.update + n.place

-- The spot of a value in column k of a tuple of relation r.
abbrev pub spot : ℕ → ℕ → Datum → ℕ
spot r k d = (r * 37 + k % 4 * 11 + digest d % 128) % 128 * 128 + (r * 30 + k % 4 * 70 + digest d % 127) % 128

-- The spot of relation r.
abbrev pub home : ℕ → ℕ
home r = (r * 37 + 77) % 128 * 128 + (r * 30 + 40) % 128

-- The set has the spots of these values of a tuple of relation r, which stand in it from column k on.
abbrev pub has_values : Signature → ℕ → ℕ → List Datum → Bool
has_values s r k [] = true
has_values s r k (d ∷ ds) = has_spot s (spot r k d) && has_values s r (suc k) ds

-- The set has the spots of all values of the tuple.
abbrev pub has_tuple : Signature → Fact → Bool
has_tuple s t = has_values s t.relation 0 t.values

-- A spot of each tuple that is more specific than a tuple of relation r with these values from column k on: the spot of the
-- first constant, or of the relation if there is no constant.
abbrev pub spot_asked : ℕ → ℕ → List Datum → ℕ
spot_asked r k [] = home r
spot_asked r k (d ∷ ds) = if is_constant d then spot r k d else spot_asked r (suc k) ds
