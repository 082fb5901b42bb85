-- A whole input: the statements of its lines in order, and the session that the checks make from them.
use Rattle.std.specs.Prelude.{◌≡◌, ℕ, ◌≤◌, ◌⊎◌, List, [], ◌∷◌, ◌++◌, Result, Ok, length}
use Rattle.std.specs.Str.Lossy.{utf8_valid_len}
use Rattle.std.specs.List.{AllByRecursion}
use Rattle.def_language.specs.Words.{words_at}
use Rattle.def_language.specs.Faults.{Kind}
use Rattle.def_language.specs.Reading.{◌>>=◌}
use Rattle.def_language.specs.Statements.{Statement, Header, Relation, Mapping, Base, Update, Answer, End}
use Rattle.def_language.specs.Grammar.{statement_words}
use Rattle.def_language.specs.Forms.{Section, Relations, rank, section_of}
use Rattle.def_language.specs.Sayable.{IsSayable}
use Rattle.def_language.specs.Sessions.{SessionData, empty_session}
use Rattle.def_language.specs.Checks.{taken}
use Rattle.def_language.specs.Lines.{Spells, lines_of}

-- The lines say these statements in turn: a blank line says none, and any other has the words of one.
pub data Say : List (List ℕ) → List Statement → Type 0 where
  nothing : Say [] []
  blank : {line : List ℕ} {lines : List (List ℕ)} {sts : List Statement} → words_at line ≡ Ok [] → Say lines sts → Say (line ∷ lines) sts
  says : {line : List ℕ} {lines : List (List ℕ)} {st : Statement} {sts : List Statement} → words_at line ≡ Ok (statement_words st) → Say lines sts
      → Say (line ∷ lines) (st ∷ sts)

-- The statement is neither the header nor the end.
abbrev pub IsInner : Statement → Type 0
IsInner (Header format) = ⊥
IsInner (Relation n columns) = Unit {0}
IsInner (Mapping m) = Unit {0}
IsInner (Base fact) = Unit {0}
IsInner (Update label curator operation) = Unit {0}
IsInner (Answer label choice) = Unit {0}
IsInner End = ⊥

-- The statements that follow one of this section are in order: none belongs to a section before the section of an earlier
-- statement.
abbrev pub AreInOrder : Section → List Statement → Type 0
AreInOrder section [] = Unit {0}
AreInOrder section (st ∷ sts) = IsInner st × (rank section ≤ rank (section_of st)) × AreInOrder (section_of st) sts

-- The session after the statements, each checked and added in turn, from this session on.
abbrev pub taken_all : SessionData → List Statement → Result SessionData Kind
taken_all s [] = Ok s
taken_all s (st ∷ sts) = taken s st >>= (λ t. taken_all t sts)

-- The bytes are UTF-8: the longest prefix that is UTF-8 is all of them.
abbrev pub IsText : List ℕ → Type 0
IsText bytes = utf8_valid_len bytes ≡ length bytes

-- The bytes say this session: they are text with a header, statements in order, and the end.
pub record IsInput (bytes : List ℕ) (s : SessionData) : Type 0 where
  pub text : IsText bytes
  pub format : ℕ
  pub known : (format ≡ 1) ⊎ (format ≡ 2)
  pub statements : List Statement
  pub lines : Say (lines_of bytes) (Header format ∷ statements ++ End ∷ [])
  pub in_order : AreInOrder Relations statements
  pub sayable : AllByRecursion (IsSayable format) statements
  pub checked : taken_all (empty_session format) statements ≡ Ok s

-- Exactly the bytes that say a session spell it.
abbrev pub InputsAreStatements : Type 0
InputsAreStatements = (bytes : List ℕ) (s : SessionData) → (Spells bytes s → IsInput bytes s) × (IsInput bytes s → Spells bytes s)
