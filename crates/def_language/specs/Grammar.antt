-- The grammar: the words of each statement. A number is a word by its value, so each statement has only one list of words.
use Rattle.std.specs.Prelude.{pos, List, [], ◌∷◌, ◌++◌, codes}
use Rattle.def_chase.specs.Values.{NullName, Datum, Number, Text, Unknown}
use Rattle.def_language.specs.Words.{Word, name, number, null, text, opens, closes, comma, colon, arrow}
use Rattle.def_language.specs.Statements.{WrittenFact, WrittenTerm, Variable, Constant, WrittenAtom, WrittenMapping, WrittenOperation, InsertFact, DeleteFact, ReplaceNull, AddMapping, WrittenChoice, ExpandFact, UnifyFact, DeleteFacts, Statement, Header, Relation, Mapping, Base, Update, Answer, End}

-- NULL
abbrev pub null_word : NullName → Word
null_word n = null n.update n.place

-- VALUE
abbrev pub value_word : Datum → Word
value_word (Number z) = number z
value_word (Text t) = text t
value_word (Unknown n) = null_word n

-- TERM
abbrev pub term_word : WrittenTerm → Word
term_word (Variable n) = name n
term_word (Constant d) = value_word d

-- [ITEM {, ITEM}]: the words of items, with commas between
abbrev pub separated : {A : Type 0} → (A → List Word) → List A → List Word
separated words [] = []
separated words (x ∷ []) = words x
separated words (x ∷ y ∷ xs) = words x ++ comma ∷ separated words (y ∷ xs)

-- an item that is one word
abbrev pub one_word : {A : Type 0} → (A → Word) → A → List Word
one_word word x = word x ∷ []

-- FACT = NAME ( VALUE {, VALUE} )
abbrev pub fact_words : WrittenFact → List Word
fact_words fact = name fact.relation ∷ opens ∷ (separated (one_word value_word) fact.values ++ closes ∷ [])

-- ATOM = NAME ( TERM {, TERM} )
abbrev pub atom_words : WrittenAtom → List Word
atom_words atom = name atom.relation ∷ opens ∷ (separated (one_word term_word) atom.terms ++ closes ∷ [])

-- NAME : [ATOM {, ATOM}] -> [ATOM {, ATOM}]
abbrev pub mapping_words : WrittenMapping → List Word
mapping_words m = name m.name ∷ colon ∷ (separated atom_words m.left ++ arrow ∷ separated atom_words m.right)

-- insert FACT | delete FACT | replace NULL with VALUE | mapping NAME : ..
abbrev pub operation_words : WrittenOperation → List Word
operation_words (InsertFact fact) = name (codes "insert") ∷ fact_words fact
operation_words (DeleteFact fact) = name (codes "delete") ∷ fact_words fact
operation_words (ReplaceNull n d) = name (codes "replace") ∷ null_word n ∷ name (codes "with") ∷ value_word d ∷ []
operation_words (AddMapping m) = name (codes "mapping") ∷ mapping_words m

-- expand | unify FACT | delete FACT {, FACT}
abbrev pub choice_words : WrittenChoice → List Word
choice_words ExpandFact = name (codes "expand") ∷ []
choice_words (UnifyFact fact) = name (codes "unify") ∷ fact_words fact
choice_words (DeleteFacts facts) = name (codes "delete") ∷ separated fact_words facts

-- the words of a statement, on a line of its own
abbrev pub statement_words : Statement → List Word
statement_words (Header format) = name (codes "youtopia") ∷ number (pos format) ∷ []
statement_words (Relation n columns) = name (codes "relation") ∷ name n ∷ number columns ∷ []
statement_words (Mapping m) = name (codes "mapping") ∷ mapping_words m
statement_words (Base fact) = name (codes "base") ∷ fact_words fact
statement_words (Update label curator operation) = name (codes "update") ∷ name label ∷ name curator ∷ operation_words operation
statement_words (Answer label choice) = name (codes "answer") ∷ name label ∷ choice_words choice
statement_words End = name (codes "end") ∷ []
