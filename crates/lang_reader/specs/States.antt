-- The state of a reader, and the lines that it has yet to read.
use Rattle.std.specs.Prelude.{ℕ, List, [], Option, Some, None}
use Rattle.def_language.specs.Lines.{State, lines_of}
use Rattle.lang_forms.specs.Statements.{section_meant}
use Rattle.lang_reader.specs.declared.lines.Reader.{Reader}

-- the section, and the session so far
abbrev pub state_of : Reader → State
state_of r = record { section = section_meant r.section; session = r.draft }

-- the lines of a text; none if there is no text
abbrev pub lines_left : Option (List ℕ) → List (List ℕ)
lines_left None = []
lines_left (Some text) = lines_of text
