-- The draws of a seed: a number of 64 bits is moved on by a fixed multiplication and addition, and its upper part counts.
use Rattle.std.specs.Prelude.{ℕ, ◌+◌, ◌*◌, ◌/◌, ◌%◌, ◌^◌}

-- The state after one draw.
abbrev pub next : ℕ → ℕ
next x = (x * 6364136223846793005 + 1442695040888963407) % 2 ^ 64

-- The number below m that was drawn, in the state after it.
abbrev pub drawn : ℕ → ℕ → ℕ
drawn m x = x / 2 ^ 33 % m
