-- The parts of statements, read from the left. The fault is the part that is missing at the first word that does not fit.
use Rattle.std.specs.Prelude.{ℕ, Bool, true, false, List, [], ◌∷◌, length, Result, Ok, if◌then◌else◌}
use Rattle.def_chase.specs.Values.{NullName, Datum, Number, Text, Unknown}
use Rattle.def_language.specs.declared.Wanted.{Wanted}
use Rattle.def_language.specs.declared.Wanted.TheVariants as missing
use Rattle.def_language.specs.Words.{Word, name, number, null, text, opens, closes, comma, colon, arrow}
use Rattle.def_language.specs.Faults.{Kind}
use Rattle.def_language.specs.Reading.{◌>>=◌, wants, many}
use Rattle.def_language.specs.Names.{Name}
use Rattle.def_language.specs.Statements.{WrittenFact, WrittenTerm, Variable, Constant, WrittenAtom, WrittenMapping}

unfoldable pub name_at : List Word → Result (Name × List Word) Kind
name_at (name n ∷ rest) = Ok (n, rest)
name_at _ = wants missing.Name

unfoldable pub open_at : List Word → Result (List Word) Kind
open_at (opens ∷ rest) = Ok rest
open_at _ = wants missing.Open

unfoldable pub colon_at : List Word → Result (List Word) Kind
colon_at (colon ∷ rest) = Ok rest
colon_at _ = wants missing.Colon

unfoldable pub end_at : List Word → Result (Unit {0}) Kind
end_at [] = Ok tt
end_at (_ ∷ _) = wants missing.EndOfLine

-- the result of reading, if the line ends after it
unfoldable pub whole : {A : Type 0} → Result (A × List Word) Kind → Result A Kind
whole read = read >>= (λ x. end_at x.1 >>= (λ _. Ok x.0))

-- the null of an update and a place, in its outer form
abbrev pub outer_null : ℕ → ℕ → NullName
outer_null u k = record { update = u; attempt = 0; place = k }

-- VALUE
abbrev pub value_of : Word → Result Datum Kind
value_of (number z) = Ok (Number z)
value_of (text t) = Ok (Text t)
value_of (null u k) = Ok (Unknown (outer_null u k))
value_of _ = wants missing.Value

-- TERM
abbrev pub term_of : Word → Result WrittenTerm Kind
term_of (name n) = Ok (Variable n)
term_of (number z) = Ok (Constant (Number z))
term_of (text t) = Ok (Constant (Text t))
term_of _ = wants missing.Term

abbrev pub is_comma : Word → Bool
is_comma comma = true
is_comma _ = false

abbrev pub is_close : Word → Bool
is_close closes = true
is_close _ = false

-- an item, whether a comma follows it, and the words after the comma or the parenthesis
unfoldable pub item_at : {A : Type 0} → Wanted → (Word → Result A Kind) → List Word → Result (A × Bool × List Word) Kind
item_at wanted item [] = wants wanted
item_at wanted item (w ∷ []) = item w >>= (λ _. wants missing.CommaOrClose)
item_at wanted item (w ∷ sign ∷ rest) = item w >>= (λ x.
    if is_comma sign then Ok (x, true, rest)
    else if is_close sign then Ok (x, false, rest)
    else wants missing.CommaOrClose)

-- ITEM {, ITEM} )
unfoldable pub items_at : {A : Type 0} → Wanted → (Word → Result A Kind) → List Word → Result (List A × List Word) Kind
items_at wanted item words = many (length words) (item_at wanted item) words

-- FACT = NAME ( VALUE {, VALUE} )
unfoldable pub fact_at : List Word → Result (WrittenFact × List Word) Kind
fact_at words = do
  relation ← name_at words
  inside ← open_at relation.1
  values ← items_at missing.Value value_of inside
  Ok (record { relation = relation.0; values = values.0 }, values.1)

-- ATOM = NAME ( TERM {, TERM} )
unfoldable pub atom_at : List Word → Result (WrittenAtom × List Word) Kind
atom_at words = do
  relation ← name_at words
  inside ← open_at relation.1
  terms ← items_at missing.Term term_of inside
  Ok (record { relation = relation.0; terms = terms.0 }, terms.1)

-- the sign after an atom of the left side: `,` or `->`
abbrev pub left_sign : WrittenAtom → List Word → Result (WrittenAtom × Bool × List Word) Kind
left_sign atom (comma ∷ rest) = Ok (atom, true, rest)
left_sign atom (arrow ∷ rest) = Ok (atom, false, rest)
left_sign atom _ = wants missing.CommaOrArrow

-- the sign after an atom of the right side or a fact of an answer: `,` or none, at the end of the line
abbrev pub last_sign : {A : Type 0} → A → List Word → Result (A × Bool × List Word) Kind
last_sign x [] = Ok (x, false, [])
last_sign x (comma ∷ rest) = Ok (x, true, rest)
last_sign x _ = wants missing.CommaOrEnd

unfoldable pub left_atom : List Word → Result (WrittenAtom × Bool × List Word) Kind
left_atom words = atom_at words >>= (λ x. left_sign x.0 x.1)

unfoldable pub right_atom : List Word → Result (WrittenAtom × Bool × List Word) Kind
right_atom words = atom_at words >>= (λ x. last_sign x.0 x.1)

unfoldable pub last_fact : List Word → Result (WrittenFact × Bool × List Word) Kind
last_fact words = fact_at words >>= (λ x. last_sign x.0 x.1)

-- [ATOM {, ATOM}] ->
unfoldable pub left_at : List Word → Result (List WrittenAtom × List Word) Kind
left_at (arrow ∷ rest) = Ok ([], rest)
left_at (name n ∷ rest) = many (length (name n ∷ rest)) left_atom (name n ∷ rest)
left_at _ = wants missing.NameOrArrow

-- [ATOM {, ATOM}], to the end of the line
unfoldable pub right_at : List Word → Result (List WrittenAtom) Kind
right_at [] = Ok []
right_at (name n ∷ rest) = many (length (name n ∷ rest)) right_atom (name n ∷ rest) >>= (λ x. Ok x.0)
right_at _ = wants missing.NameOrEnd

-- NAME : [ATOM {, ATOM}] -> [ATOM {, ATOM}]
unfoldable pub mapping_at : List Word → Result WrittenMapping Kind
mapping_at words = do
  called ← name_at words
  rest ← colon_at called.1
  left ← left_at rest
  right ← right_at left.1
  Ok (record { name = called.0; left = left.0; right = right })

-- FACT {, FACT}, to the end of the line
unfoldable pub facts_at : List Word → Result (List WrittenFact) Kind
facts_at words = many (length words) last_fact words >>= (λ x. Ok x.0)
