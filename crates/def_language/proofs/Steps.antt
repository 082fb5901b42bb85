-- One line of an input, and what it says.
use Rattle.std.proofs.Common.{◌≡◌, ℕ, ◌+◌, ◌<◌, refl, List, [], ◌∷◌, length, arith}
use Rattle.std.specs.Prelude.{Result, Ok, Err}
use Rattle.def_language.specs.declared.tokens.LexRefusal.{LexRefusal}
use Rattle.def_language.specs.Words.{Word, words_at}
use Rattle.def_language.specs.Faults.{Kind, Wrong}
use Rattle.def_language.specs.Reading.{◌>>=◌}
use Rattle.def_language.specs.Statements.{Statement, Header, Relation, Mapping, Base, Update, Answer, End}
use Rattle.def_language.specs.Grammar.{statement_words}
use Rattle.def_language.specs.Forms.{Section, Ended, rank, section_of, statement_at}
use Rattle.def_language.specs.Sayable.{IsSayable, MayStand}
use Rattle.def_language.specs.Sessions.{SessionData}
use Rattle.def_language.specs.Checks.{taken}
use Rattle.def_language.specs.Lines.{State, open_line, line_in, line_with, line_at, placed_words, numbered, and_then, lines_from}
use Rattle.def_language.proofs.Bound.{bind_ok, ok_is, Again, Only}

abbrev pub at_line : Section → SessionData → State
at_line section a = record { section = section; session = a }

-- a statement was said by the words, may stand there, and was taken
pub record Said (section : Section) (a : SessionData) (ws : List Word) (next : State) : Type 0 where
  pub open_ : rank section < 5
  pub statement : Statement
  pub words : ws ≡ statement_words statement
  pub sayable : IsSayable a.format statement
  pub stands : MayStand section statement
  pub session : SessionData
  pub taken_so : taken a statement ≡ Ok session
  pub is : at_line (section_of statement) session ≡ next

-- a line was blank, or said a statement
pub data Heard (section : Section) (a : SessionData) (line : List ℕ) (next : State) : Type 0 where
  Blank : words_at line ≡ Ok [] → at_line section a ≡ next → Heard section a line next
  Spoke : {ws : List Word} → words_at line ≡ Ok ws → Said section a ws next → Heard section a line next

open_said : Only → (section : Section) (a : SessionData) (ws : List Word) (next : State) → rank section < 5 → open_line (at_line section a) ws ≡ Ok next → Said section a ws next
unfolding open_line
open_said only section a ws next lt e =
    let st = bind_ok (statement_at section a.format ws) _ next e in
    let b = bind_ok (taken a st.0) _ next st.2 in
    let found = only section a.format ws st.0 st.1 in
    record { open_ = lt; statement = st.0; words = found.0; sayable = found.1; stands = found.2; session = b.0; taken_so = b.1; is = ok_is (at_line (section_of st.0) b.0) next b.2 }

in_said : Only → (section : Section) (a : SessionData) (ws : List Word) (next : State) → line_in section (at_line section a) ws ≡ Ok next → Said section a ws next
in_said only Ended a ws next e = let f : ⊥ = cc in absurd f
in_said only section a ws next e = open_said only section a ws next (omega arith) e

with_heard : Only → (section : Section) (a : SessionData) (line : List ℕ) (ws : List Word) (next : State) → words_at line ≡ Ok ws → line_with (at_line section a) ws ≡ Ok next → Heard section a line next
unfolding line_with
with_heard only section a line [] next w e = Blank w (ok_is (at_line section a) next e)
with_heard only section a line (x ∷ ws) next w e = Spoke w (in_said only section a (x ∷ ws) next e)

words_heard : Only → (start : ℕ) (section : Section) (a : SessionData) (line : List ℕ) (read : Result (List Word) LexRefusal) (next : State) → words_at line ≡ read
    → (placed_words start read >>= line_with (at_line section a)) ≡ Ok next → Heard section a line next
words_heard only start section a line (Ok ws) next w e = with_heard only section a line ws next w e
words_heard only start section a line (Err refusal) next w e = let f : ⊥ = cc in absurd f

pub line_heard : Only → (start : ℕ) (section : Section) (a : SessionData) (line : List ℕ) (next : State) → line_at start (at_line section a) line ≡ Ok next → Heard section a line next
line_heard only start section a line next e = words_heard only start section a line (words_at line) next refl e

pub numbered_ok : {A : Type 0} (n : ℕ) (read : Result A Kind) (x : A) → (let r : A → Result A Wrong = λ y. Ok y in numbered n read ≡ r x) → read ≡ Ok x
numbered_ok n (Ok y) x e = cc
numbered_ok n (Err kind) x e = let f : ⊥ = cc in absurd f

and_then_ok : {A B : Type 0} (read : Result A Wrong) (next : A → Result B Wrong) (y : B) → and_then read next ≡ Ok y → (x : A) × (read ≡ Ok x) × (next x ≡ Ok y)
and_then_ok (Ok x) next y e = (x, refl, e)
and_then_ok (Err wrong) next y e = let f : ⊥ = cc in absurd f

-- the first line was heard, and the others are read from there
pub record First (n start : ℕ) (section : Section) (a : SessionData) (line : List ℕ) (lines : List (List ℕ)) (s : SessionData) : Type 0 where
  pub next : State
  pub heard : Heard section a line next
  pub others : lines_from (n + 1) (start + length line + 1) next lines ≡ Ok s

pub first_line : Only → (n start : ℕ) (section : Section) (a : SessionData) (line : List ℕ) (lines : List (List ℕ)) (s : SessionData) → lines_from n start (at_line section a) (line ∷ lines) ≡ Ok s
    → First n start section a line lines s
unfolding lines_from
first_line only n start section a line lines s e =
    let r = and_then_ok (numbered (n + 1) (line_at start (at_line section a) line)) _ s e in
    record { next = r.0; heard = line_heard only start section a line r.0 (numbered_ok (n + 1) (line_at start (at_line section a) line) r.0 r.1); others = r.2 }

-- ---- and back

-- a blank line is passed over
pub blank_passed : (n start : ℕ) (section : Section) (a : SessionData) (line : List ℕ) (lines : List (List ℕ)) → words_at line ≡ Ok []
    → lines_from n start (at_line section a) (line ∷ lines) ≡ lines_from (n + 1) (start + length line + 1) (at_line section a) lines
unfolding lines_from line_with
blank_passed n start section a line lines w = rw w refl

in_section : (section : Section) (a : SessionData) (ws : List Word) → rank section < 5 → line_in section (at_line section a) ws ≡ open_line (at_line section a) ws
in_section Ended a ws lt = absurd (omega arith)
in_section section a ws lt = refl

opened : (section : Section) (a : SessionData) (st : Statement) → rank section < 5 → line_with (at_line section a) (statement_words st) ≡ open_line (at_line section a) (statement_words st)
unfolding line_with
opened section a (Header f) lt = in_section section a (statement_words (Header f)) lt
opened section a (Relation n columns) lt = in_section section a (statement_words (Relation n columns)) lt
opened section a (Mapping m) lt = in_section section a (statement_words (Mapping m)) lt
opened section a (Base fact) lt = in_section section a (statement_words (Base fact)) lt
opened section a (Update label curator operation) lt = in_section section a (statement_words (Update label curator operation)) lt
opened section a (Answer label choice) lt = in_section section a (statement_words (Answer label choice)) lt
opened section a End lt = in_section section a (statement_words End) lt

-- a line that says a statement which may stand there and is taken
line_taken : Again → (start : ℕ) (section : Section) (a b : SessionData) (line : List ℕ) (st : Statement) → words_at line ≡ Ok (statement_words st) → MayStand section st → rank section < 5
    → IsSayable a.format st → taken a st ≡ Ok b → line_at start (at_line section a) line ≡ Ok (at_line (section_of st) b)
unfolding open_line
line_taken again start section a b line st words stand lt sayable taken_so = rw (words, opened section a st lt, again section a.format st stand sayable, taken_so) refl

pub line_passed : Again → (n start : ℕ) (section : Section) (a b : SessionData) (line : List ℕ) (lines : List (List ℕ)) (st : Statement) → words_at line ≡ Ok (statement_words st)
    → MayStand section st → rank section < 5 → IsSayable a.format st → taken a st ≡ Ok b
    → lines_from n start (at_line section a) (line ∷ lines) ≡ lines_from (n + 1) (start + length line + 1) (at_line (section_of st) b) lines
unfolding lines_from
line_passed again n start section a b line lines st words stand lt sayable taken_so = rw (line_taken again start section a b line st words stand lt sayable taken_so) refl
