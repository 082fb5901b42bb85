-- What is drawn for a row of the program.
use Rattle.std.specs.Prelude.{◌≡◌, ℕ, [], ◌∷◌, ◌++◌, pos}
use Rattle.base_types.specs.Contents.{data_of}
use Rattle.base_types.specs.Listed.{Listed}
use Rattle.base_types.specs.declared.values.Value.{Value}
use Rattle.def_chase.specs.Values.{Number}
use Rattle.run_drill.specs.Draws.{next, drawn}

-- One more value was drawn, below this number.
abbrev pub HasDrawn : ℕ → ℕ → Listed Value → Listed Value → Type 0
HasDrawn most x vs vs' = data_of vs' ≡ data_of vs ++ Number (pos (drawn most (next x))) ∷ []
