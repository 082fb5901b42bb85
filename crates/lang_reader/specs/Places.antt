-- One line.
use Rattle.std.specs.Prelude.{◌≡◌, ℕ, false, List, All}
use Rattle.def_language.specs.Bytes.{is_line_feed}

-- no byte is a line feed
abbrev pub IsOneLine : List ℕ → Type 0
IsOneLine bytes = All (λ b. is_line_feed b ≡ false) bytes
