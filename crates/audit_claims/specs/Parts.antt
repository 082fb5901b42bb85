-- The parts of an auditor's input: a session, perhaps the result text of a run, and a trace.
use Rattle.std.specs.Prelude.{◌≡◌, ℕ, Bool, false, List, [], ◌∷◌, ◌++◌, Result, Ok, codes, take, drop, nat_eq, if◌then◌else◌}
use Rattle.std.specs.List.{concat, starts_with}
use Rattle.def_language.specs.Names.{same_name}
use Rattle.def_language.specs.Words.{Word, name, words_at}
use Rattle.def_language.specs.Bytes.{is_line_feed}
use Rattle.def_language.specs.declared.tokens.LexRefusal.{LexRefusal}

-- the lines with a byte at the front of the first of them
abbrev pub onto_first : ℕ → List (List ℕ) → List (List ℕ)
onto_first b [] = (b ∷ []) ∷ []
onto_first b (line ∷ lines) = (b ∷ line) ∷ lines

-- The lines of a text, each with its line feed; the last one may have none.
abbrev pub lines_in : List ℕ → List (List ℕ)
lines_in [] = []
lines_in (b ∷ bs) = if is_line_feed b then (b ∷ []) ∷ lines_in bs else onto_first b (lines_in bs)

-- The lines before the first that passes a test; then, the lines from that one on.
abbrev pub before : (List ℕ → Bool) → List (List ℕ) → List (List ℕ)
before test [] = []
before test (line ∷ lines) = if test line then [] else line ∷ before test lines

abbrev pub from : (List ℕ → Bool) → List (List ℕ) → List (List ℕ)
from test [] = []
from test (line ∷ lines) = if test line then line ∷ lines else from test lines

-- the text before the first line feed
abbrev pub bare : List ℕ → List ℕ
bare [] = []
bare (b ∷ bs) = if is_line_feed b then [] else b ∷ bare bs

abbrev pub are_end : Result (List Word) LexRefusal → Bool
are_end (Ok (name n ∷ [])) = same_name n (codes "end")
are_end _ = false

-- The line holds `end` and no other token.
abbrev pub is_end : List ℕ → Bool
is_end line = are_end (words_at (bare line))

-- The line begins with `trace` and a space.
abbrev pub is_head : List ℕ → Bool
is_head line = starts_with nat_eq line (codes "trace ")

-- The session: the text up to and with the first line that is an end, or the whole text if there is none.
abbrev pub session_in : List ℕ → List ℕ
session_in input = concat (before is_end (lines_in input)) ++ concat (take 1 (from is_end (lines_in input)))

-- what follows the session
abbrev pub after_session : List ℕ → List ℕ
after_session input = concat (drop 1 (from is_end (lines_in input)))

-- A text counts as a result text by its first line.
abbrev pub IsResult : List ℕ → Type 0
IsResult text = bare text ≡ codes "youtopia result 1"

-- The result text: up to the first line that begins a trace, or to the end.
abbrev pub result_in : List ℕ → List ℕ
result_in text = concat (before is_head (lines_in text))

abbrev pub after_result : List ℕ → List ℕ
after_result text = concat (from is_head (lines_in text))
