-- Answers to queries as users see them.
use Rattle.std.specs.Prelude.{ℕ, false, List, [], ◌∷◌, ◌++◌, codes}
use Rattle.std.specs.List.{flat_map}
use Rattle.def_language.specs.Printing.{joined_text, value_text}
use Rattle.run_ask.specs.Certain.{Row}

-- a row on a line of its own: its values in parentheses
abbrev pub row_line : Row → List ℕ
row_line row = 40 ∷ (joined_text (value_text false) row ++ 41 ∷ 10 ∷ [])

-- the answers: what they are, and then each row
abbrev pub answers_text : List Row → List ℕ
answers_text rows = codes "youtopia answers 1\n" ++ flat_map row_line rows
