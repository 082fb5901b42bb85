-- Reading the lines of an input, one after the other, and the session that bytes spell.
use Rattle.std.specs.Prelude.{◌≡◌, ℕ, ◌+◌, ◌==◌, List, [], ◌∷◌, length, take, count_by, Result, Ok, Err, if◌then◌else◌}
use Rattle.std.specs.List.{slice_split}
use Rattle.std.specs.Str.Lossy.{utf8_valid_len}
use Rattle.def_language.specs.declared.tokens.LexRefusal.{LexRefusal}
use Rattle.def_language.specs.Bytes.{is_line_feed}
use Rattle.def_language.specs.Words.{Word, words_at}
use Rattle.def_language.specs.Faults.{Kind, Wrong, BadByte, BadHeader, NoEnd, AfterEnd, lexical_kind, wrong_text}
use Rattle.def_language.specs.Reading.{◌>>=◌}
use Rattle.def_language.specs.Sessions.{SessionData, empty_session}
use Rattle.def_language.specs.Forms.{Section, Beginning, Ended, section_of, statement_at}
use Rattle.def_language.specs.Checks.{taken}

-- the state of reading: the section of the last statement, and the session so far
pub record State : Type 0 where
  pub section : Section
  pub session : SessionData

-- the state before the header
abbrev pub begun : State
begun = record { section = Beginning; session = empty_session 1 }

-- the state after a line that is not blank, if `end` was not read yet
unfoldable pub open_line : State → List Word → Result State Kind
open_line state words = do
  statement ← statement_at state.section state.session.format words
  session ← taken state.session statement
  Ok (record { section = section_of statement; session = session })

abbrev pub line_in : Section → State → List Word → Result State Kind
line_in Ended state words = Err AfterEnd
line_in section state words = open_line state words

-- the state after a line with these words; a blank one changes nothing
unfoldable pub line_with : State → List Word → Result State Kind
line_with state [] = Ok state
line_with state (w ∷ ws) = line_in state.section state (w ∷ ws)

-- the words of a line that begins at a place
abbrev pub placed_words : ℕ → Result (List Word) LexRefusal → Result (List Word) Kind
placed_words start (Ok words) = Ok words
placed_words start (Err refusal) = Err (lexical_kind start refusal)

-- the state after the line that begins at a place; its leftmost lexical fault comes before its other faults
abbrev pub line_at : ℕ → State → List ℕ → Result State Kind
line_at start state line = placed_words start (words_at line) >>= line_with state

-- a fault, with the number of its line
abbrev pub numbered : {A : Type 0} → ℕ → Result A Kind → Result A Wrong
numbered line (Ok x) = Ok x
numbered line (Err kind) = Err (record { line = line; kind = kind })

abbrev pub and_then : {A B : Type 0} → Result A Wrong → (A → Result B Wrong) → Result B Wrong
and_then (Ok x) next = next x
and_then (Err wrong) next = Err wrong

-- The end of the input: there must have been a header, and `end`.
abbrev pub closed : Section → SessionData → Result SessionData Kind
closed Beginning s = Err BadHeader
closed Ended s = Ok s
closed section s = Err NoEnd

-- The session of the lines that are left after `number` lines, which end at `start`, or the first fault.
unfoldable pub lines_from : ℕ → ℕ → State → List (List ℕ) → Result SessionData Wrong
lines_from number start state [] = numbered number (closed state.section state.session)
lines_from number start state (line ∷ lines) =
    and_then (numbered (number + 1) (line_at start state line)) (λ next. lines_from (number + 1) (start + length line + 1) next lines)

-- the lines of an input, which its line feeds separate
abbrev pub lines_of : List ℕ → List (List ℕ)
lines_of bytes = slice_split is_line_feed bytes

-- the number of the line of a place
abbrev pub line_number : List ℕ → ℕ → ℕ
line_number bytes place = 1 + count_by is_line_feed (take place bytes)

-- the fault of bytes that are not UTF-8: the place where they stop being UTF-8
abbrev pub not_text : List ℕ → Wrong
not_text bytes = record { line = line_number bytes (utf8_valid_len bytes); kind = BadByte (utf8_valid_len bytes) }

-- The session that bytes spell, or their first fault. They must be UTF-8 as a whole; then the lines are read from the first on.
unfoldable pub read : List ℕ → Result SessionData Wrong
read bytes = if utf8_valid_len bytes == length bytes then lines_from 0 0 begun (lines_of bytes) else Err (not_text bytes)

-- the bytes spell the session
abbrev pub Spells : List ℕ → SessionData → Type 0
Spells bytes s = read bytes ≡ Ok s

-- this is the first fault of the bytes
abbrev pub IsFirstFault : List ℕ → Wrong → Type 0
IsFirstFault bytes wrong = read bytes ≡ Err wrong

-- the text of an input's first fault for users; empty if the input spells a session
abbrev pub fault_text : Result SessionData Wrong → List ℕ
fault_text (Ok s) = []
fault_text (Err wrong) = wrong_text wrong
