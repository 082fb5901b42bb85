-- The hash that a `Mixer` computes.
use Rattle.std.specs.Prelude.{ℕ, ◌*◌, ◌/◌, ◌^◌, ◌-◌, ◌==◌, List, length, if◌then◌else◌, bit_and, bit_xor}
use Rattle.std.specs.Int.{from_le_bytes, w64}
use Rattle.std.specs.Hash.FoldHasher as folding
use Rattle.set_facts.specs.declared.mixing.Mixer.{Mixer}

-- The state before anything is written.
abbrev pub initial : Mixer
initial = record { state = 0x243f_6a88_85a3_08d3 }

-- The two halves of the 128 bits of the product with an odd number, joined.
abbrev pub folded : ℕ → ℕ
folded n = bit_xor (bit_and (n * 0x9e37_79b9_7f4a_7c15) (2 ^ 64 - 1)) (n * 0x9e37_79b9_7f4a_7c15 / 2 ^ 64)

-- The state after the number has been taken in.
abbrev pub mixed : Mixer → ℕ → Mixer
mixed h n = record { state = folded (bit_xor h.state n) }

-- The hash at the end.
abbrev pub finished : Mixer → ℕ
finished h = h.state

-- The number for the bytes: the number that they spell if there are eight, the lowest first, otherwise a hash of them.
abbrev pub written : List ℕ → ℕ
written bs = if length bs == 8 then from_le_bytes w64 bs else folding.finish (folding.write folding.initial bs)
