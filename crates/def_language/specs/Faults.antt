-- The faults of a session, with their numbers and texts.
use Rattle.std.specs.Prelude.{ℕ, ◌+◌, List, ◌∷◌, ◌++◌, codes}
use Rattle.std.specs.Fmt.{decimal}
use Rattle.def_language.specs.declared.tokens.LexRefusal.{LexRefusal}
use Rattle.def_language.specs.declared.tokens.LexRefusal.TheVariants as lexical
use Rattle.def_language.specs.declared.Wanted.{Wanted}
use Rattle.def_language.specs.declared.Wanted.TheVariants as missing
use Rattle.def_language.specs.declared.Which.{Which}
use Rattle.def_language.specs.declared.Which.TheVariants as limit

-- The kinds of faults with their data. Names are bytes; places count bytes of the input from 0.
pub data Kind : Type 0 where
  UnknownRelation : List ℕ → Kind
  Arity : List ℕ → ℕ → ℕ → Kind
  EmptySide : Kind
  TooManyAtoms : Kind
  DuplicateName : List ℕ → Kind
  PlainCycle : List ℕ → Kind
  BadByte : ℕ → Kind
  OpenText : ℕ → Kind
  WideNumber : ℕ → Kind
  LongText : ℕ → Kind
  BadHeader : Kind
  Expected : Wanted → Kind
  UnknownLabel : List ℕ → Kind
  NullNotBelow : ℕ → ℕ → Kind
  LimitReached : Which → Kind
  NoEnd : Kind
  AfterEnd : Kind

-- a fault and its line, counted from 1
pub record Wrong : Type 0 where
  pub line : ℕ
  pub kind : Kind

-- The fault for a lexer's refusal of a line that begins at a place. `Memory` is no fault of a line, and no definition gives it;
-- its case here never occurs.
abbrev pub lexical_kind : ℕ → LexRefusal → Kind
lexical_kind start (lexical.BadByte place) = BadByte (start + place)
lexical_kind start (lexical.OpenText place) = OpenText (start + place)
lexical_kind start (lexical.WideNumber place) = WideNumber (start + place)
lexical_kind start (lexical.LongText place) = LongText (start + place)
lexical_kind start lexical.Memory = BadByte start

-- the number of a kind
abbrev pub number_of : Kind → ℕ
number_of (UnknownRelation n) = 1
number_of (Arity n columns found) = 2
number_of EmptySide = 3
number_of TooManyAtoms = 4
number_of (DuplicateName n) = 5
number_of (PlainCycle n) = 6
number_of (BadByte place) = 10
number_of (OpenText place) = 11
number_of (WideNumber place) = 12
number_of (LongText place) = 13
number_of BadHeader = 20
number_of (Expected wanted) = 21
number_of (UnknownLabel n) = 22
number_of (NullNotBelow u k) = 23
number_of (LimitReached which) = 24
number_of NoEnd = 25
number_of AfterEnd = 26

-- the missing part, in words
abbrev pub wanted_text : Wanted → List ℕ
wanted_text missing.Statement = codes "statement"
wanted_text missing.Name = codes "name"
wanted_text missing.Number = codes "number"
wanted_text missing.Colon = codes "colon"
wanted_text missing.Open = codes "open"
wanted_text missing.CommaOrClose = codes "comma or close"
wanted_text missing.Term = codes "term"
wanted_text missing.Value = codes "value"
wanted_text missing.Null = codes "null"
wanted_text missing.NameOrArrow = codes "name or arrow"
wanted_text missing.CommaOrArrow = codes "comma or arrow"
wanted_text missing.NameOrEnd = codes "name or end"
wanted_text missing.CommaOrEnd = codes "comma or end"
wanted_text missing.Operation = codes "operation"
wanted_text missing.With = codes "with"
wanted_text missing.Choice = codes "choice"
wanted_text missing.EndOfLine = codes "end of line"

-- the quantity whose limit is reached, in words
abbrev pub which_text : Which → List ℕ
which_text limit.Arity = codes "arity"
which_text limit.Relations = codes "relations"
which_text limit.Mappings = codes "mappings"
which_text limit.Base = codes "base"
which_text limit.Updates = codes "updates"
which_text limit.Curators = codes "curators"
which_text limit.Answers = codes "answers"

-- a fault in words
abbrev pub kind_text : Kind → List ℕ
kind_text (UnknownRelation n) = codes "unknown relation " ++ n
kind_text (Arity n columns found) = codes "relation " ++ (n ++ (codes " has " ++ (decimal columns ++ (codes " columns, found " ++ decimal found))))
kind_text EmptySide = codes "empty side"
kind_text TooManyAtoms = codes "more than 8 atoms on a side"
kind_text (DuplicateName n) = codes "name " ++ (n ++ codes " is used twice")
kind_text (PlainCycle n) = codes "mapping " ++ (n ++ codes " closes a plain cycle")
kind_text (BadByte place) = codes "bad byte at " ++ decimal place
kind_text (OpenText place) = codes "text is not closed, opened at " ++ decimal place
kind_text (WideNumber place) = codes "number out of range at " ++ decimal place
kind_text (LongText place) = codes "text longer than 256 bytes at " ++ decimal place
kind_text BadHeader = codes "header is not youtopia 1 or 2"
kind_text (Expected wanted) = codes "expected " ++ wanted_text wanted
kind_text (UnknownLabel n) = codes "unknown label " ++ n
kind_text (NullNotBelow u k) = codes "null ?" ++ (decimal u ++ (46 ∷ (decimal k ++ codes " is not below")))
kind_text (LimitReached which) = codes "limit reached: " ++ which_text which
kind_text NoEnd = codes "end is missing"
kind_text AfterEnd = codes "something follows end"

-- a fault and its line in words, as users see them
abbrev pub wrong_text : Wrong → List ℕ
wrong_text wrong = codes "session line " ++ (decimal wrong.line ++ (codes ": fault " ++ (decimal (number_of wrong.kind) ++ (codes ": " ++ kind_text wrong.kind))))
