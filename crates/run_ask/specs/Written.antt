-- Queries as they are written: NAME ( NAME {, NAME} ) : ATOM {, ATOM}
use Rattle.std.specs.Prelude.{◌≡◌, ℕ, Bool, true, false, ◌&&◌, nat_le, List, ◌∷◌, length, Result, Ok, IsUtf8, All}
use Rattle.std.specs.List.{list_any, list_all}
use Rattle.def_language.specs.Bytes.{is_line_feed}
use Rattle.def_language.specs.declared.Wanted.TheVariants as missing
use Rattle.def_language.specs.Words.{Word, words_at, comma, closes}
use Rattle.def_language.specs.Faults.{Kind}
use Rattle.def_language.specs.Reading.{◌>>=◌, wants, many}
use Rattle.def_language.specs.Names.{Name, same_name}
use Rattle.def_language.specs.Statements.{WrittenTerm, Variable, Constant, WrittenAtom}
use Rattle.def_language.specs.Parts.{name_at, open_at, colon_at, right_at}

-- A query as it is written: the names of its head's variables, and the atoms of its body. The name before them means nothing.
pub record WrittenAsk : Type 0 where
  pub head : List Name
  pub body : List WrittenAtom

-- what follows a name of the head
abbrev pub head_sign : Name → List Word → Result (Name × Bool × List Word) Kind
head_sign n (comma ∷ rest) = Ok (n, true, rest)
head_sign n (closes ∷ rest) = Ok (n, false, rest)
head_sign n _ = wants missing.CommaOrClose

-- a name of the head, whether a comma follows it, and the words after that comma or after the parenthesis
unfoldable pub head_name : List Word → Result (Name × Bool × List Word) Kind
head_name words = name_at words >>= (λ x. head_sign x.0 x.1)

-- NAME {, NAME} )
unfoldable pub head_at : List Word → Result (List Name × List Word) Kind
head_at words = many (length words) head_name words

-- NAME ( NAME {, NAME} ) : ATOM {, ATOM}, to the end of the line
unfoldable pub ask_at : List Word → Result WrittenAsk Kind
ask_at words = do
  called ← name_at words
  inside ← open_at called.1
  head ← head_at inside
  rest ← colon_at head.1
  body ← right_at rest
  Ok (record { head = head.0; body = body })

-- from 1 to 8
abbrev pub is_few : ℕ → Bool
is_few n = nat_le 1 n && nat_le n 8

-- whether a term is the variable of the name
abbrev pub is_variable : Name → WrittenTerm → Bool
is_variable n (Variable m) = same_name n m
is_variable n (Constant d) = false

-- whether the variable of the name stands in an atom, in one of the atoms
abbrev pub stands_in_atom : Name → WrittenAtom → Bool
stands_in_atom n a = list_any (is_variable n) a.terms

abbrev pub stands_in : List WrittenAtom → Name → Bool
stands_in atoms n = list_any (stands_in_atom n) atoms

-- 1 to 8 names of variables that stand in the body, and 1 to 8 atoms
abbrev pub is_ask : WrittenAsk → Bool
is_ask q = is_few (length q.head) && (is_few (length q.body) && list_all (stands_in q.body) q.head)

-- A text spells a query: it is UTF-8 without a line feed, and its words are read as that query, which keeps the limits of one.
-- Blanks and a comment may stand around it.
pub record SpellsAsk (text : List ℕ) (q : WrittenAsk) : Type 0 where
  pub utf8 : IsUtf8 text
  pub one_line : All (λ b. is_line_feed b ≡ false) text
  pub words : List Word
  pub spoken : words_at text ≡ Ok words
  pub read : ask_at words ≡ Ok q
  pub fits : is_ask q ≡ true
