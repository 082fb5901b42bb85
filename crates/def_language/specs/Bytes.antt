-- The kinds of bytes that tokens are made of.
use Rattle.std.specs.Prelude.{ℕ, Bool, ◌&&◌, ◌||◌, nat_le, ◌==◌, List, take}
use Rattle.std.specs.List.{prefix_len}

-- an ASCII letter or `_`
abbrev pub begins_name : ℕ → Bool
begins_name b = (nat_le 97 b && nat_le b 122) || (nat_le 65 b && nat_le b 90) || (b == 95)

abbrev pub is_digit : ℕ → Bool
is_digit b = nat_le 48 b && nat_le b 57

abbrev pub continues_name : ℕ → Bool
continues_name b = begins_name b || is_digit b

-- a space, a tab or a carriage return
abbrev pub is_blank : ℕ → Bool
is_blank b = (b == 32) || (b == 9) || (b == 13)

abbrev pub is_line_feed : ℕ → Bool
is_line_feed b = b == 10

-- the number of bytes at the front that are of a kind
abbrev pub run : (ℕ → Bool) → List ℕ → ℕ
run kind bytes = prefix_len kind bytes

-- the digits at the front
abbrev pub digits_of : List ℕ → List ℕ
digits_of bytes = take (run is_digit bytes) bytes
