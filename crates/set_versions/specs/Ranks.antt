-- Ranks: numbers that never fall along the order of tuples. Of two tuples with different ranks the one with the lower rank comes
-- first. Most tuples have different ranks.
use Rattle.std.specs.Prelude.{ℕ, zero, suc, ◌+◌, ◌-◌, ◌*◌, min, cond, nat_lt, List, [], ◌∷◌, ℤ, pos, negsuc, Option, Some, None, slice_get}
use Rattle.def_chase.specs.Values.{Datum, Number, Text, Unknown, Fact}

-- The bound of the ranks of numbers, and of the ranks of words among words: 2 to the power of 46.
abbrev pub kind_span : ℕ
kind_span = 70368744177664

-- The bound of the ranks of values: 2 to the power of 48.
abbrev pub value_span : ℕ
value_span = 281474976710656

-- The rank of the number 0: 2 to the power of 45. Numbers too far from 0 have the rank of the last number that is not.
abbrev pub middle : ℕ
middle = 35184372088832

abbrev pub number_rank : ℤ → ℕ
number_rank (pos n) = middle + min n (middle - 1)
number_rank (negsuc n) = middle - min (suc n) (middle - 1)

-- The first byte of a word, and the bytes that are compared after it. A byte of 255 or more counts as 255 and as the last one.
abbrev pub first_byte : List ℕ → ℕ
first_byte [] = 0
first_byte (b ∷ bs) = min b 255

abbrev pub after_byte : List ℕ → List ℕ
after_byte [] = []
after_byte (b ∷ bs) = cond (nat_lt b 255) bs []

-- The number k with the next n bytes of the word as further digits.
abbrev pub bytes_after : ℕ → ℕ → List ℕ → ℕ
bytes_after zero k w = k
bytes_after (suc n) k w = bytes_after n (k * 256 + first_byte w) (after_byte w)

-- The first five bytes of a word as one number.
abbrev pub word_rank : List ℕ → ℕ
word_rank w = bytes_after 4 (first_byte w) (after_byte w)

-- The update and the place of a null as one number.
abbrev pub null_rank : ℕ → ℕ → ℕ
null_rank update place = min (update * 8192 + min place 8191) (kind_span - 1)

-- The rank of a value; 0 if there is none.
abbrev pub value_rank : Option Datum → ℕ
value_rank None = 0
value_rank (Some (Number i)) = number_rank i
value_rank (Some (Text w)) = kind_span + word_rank w
value_rank (Some (Unknown n)) = 2 * kind_span + null_rank n.update n.place

-- The rank of tuples of relation r with this first value, or without any value.
abbrev pub rank_at : ℕ → Option Datum → ℕ
rank_at r o = r * value_span + value_rank o

-- The rank of a tuple.
abbrev pub rank_of : Fact → ℕ
rank_of t = rank_at t.relation (slice_get t.values 0)
