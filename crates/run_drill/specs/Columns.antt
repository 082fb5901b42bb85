-- Numbers that are drawn for the columns of a tuple.
use Rattle.std.specs.Prelude.{ℕ, pos, List, [], ◌∷◌}
use Rattle.run_drill.specs.Draws.{next, drawn}
use Rattle.def_chase.specs.Values.{Datum, Number}

-- Numbers below these limits, one draw after the other.
abbrev pub columns : List ℕ → ℕ → List Datum
columns [] x = []
columns (m ∷ ms) x = Number (pos (drawn m (next x))) ∷ columns ms (next x)

-- The state after these draws.
abbrev pub after : List ℕ → ℕ → ℕ
after [] x = x
after (m ∷ ms) x = after ms (next x)
