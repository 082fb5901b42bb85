-- The new unknowns of an update.
use Rattle.std.specs.Prelude.{ℕ, [], ◌∷◌}
use Rattle.def_workspace.specs.Lines.{Spelled, Known, New, Deed, Inserts, Deletes, Fills, Swaps, Fixes, Forces, Drops}
use Rattle.def_workspace.specs.Ops.{new_among}

-- The number of the new unknown that is this value; 0 for a known value.
abbrev pub new_at : Spelled → ℕ
new_at (Known d) = 0
new_at (New j) = j

-- The number of new unknowns in a deed.
abbrev pub news : Deed → ℕ
news (Inserts ts) = new_among ts
news (Deletes ts) = 0
news (Fills u v) = 0
news (Swaps t u) = new_among (u ∷ [])
news (Fixes m vs) = 0
news (Forces m) = 0
news (Drops m) = 0
