-- Whole statements, read from the left, each in its section.
use Rattle.std.specs.Prelude.{ℕ, ℤ, pos, negsuc, Bool, false, ◌&&◌, ◌||◌, ◌==◌, nat_le, List, [], ◌∷◌, codes, Result, Ok, Err, if◌then◌else◌}
use Rattle.def_chase.specs.Values.{NullName}
use Rattle.def_language.specs.declared.Wanted.TheVariants as missing
use Rattle.def_language.specs.Words.{Word, name, number, null}
use Rattle.def_language.specs.Faults.{Kind, BadHeader}
use Rattle.def_language.specs.Reading.{◌>>=◌, wants}
use Rattle.def_language.specs.Names.{Name, same_name}
use Rattle.def_language.specs.Statements.{WrittenOperation, InsertFact, DeleteFact, ReplaceNull, AddMapping, WrittenChoice, ExpandFact, UnifyFact, DeleteFacts, Statement, Header, Relation, Mapping, Base, Update, Answer, End}
use Rattle.def_language.specs.Parts.{name_at, end_at, whole, outer_null, value_of, fact_at, mapping_at, facts_at}

-- the sections of a session, in their order
pub data Section : Type 0 where
  Beginning : Section
  Relations : Section
  Mappings : Section
  Tuples : Section
  Updates : Section
  Ended : Section

abbrev pub rank : Section → ℕ
rank Beginning = 0
rank Relations = 1
rank Mappings = 2
rank Tuples = 3
rank Updates = 4
rank Ended = 5

-- the section that a statement belongs to: after the header come the relations
abbrev pub section_of : Statement → Section
section_of (Header format) = Relations
section_of (Relation n columns) = Relations
section_of (Mapping m) = Mappings
section_of (Base fact) = Tuples
section_of (Update label curator operation) = Updates
section_of (Answer label choice) = Updates
section_of End = Ended

-- 1 or 2
abbrev pub is_format : ℤ → Bool
is_format (pos n) = (n == 1) || (n == 2)
is_format (negsuc n) = false

-- the number as a natural one; 0 if it is negative
abbrev pub natural : ℤ → ℕ
natural (pos n) = n
natural (negsuc n) = 0

-- youtopia 1 | youtopia 2
unfoldable pub header_at : List Word → Result Statement Kind
header_at (name n ∷ number z ∷ []) = if same_name n (codes "youtopia") && is_format z then Ok (Header (natural z)) else Err BadHeader
header_at _ = Err BadHeader

abbrev pub columns_at : Name → List Word → Result Statement Kind
columns_at n (number z ∷ rest) = end_at rest >>= (λ _. Ok (Relation n z))
columns_at n _ = wants missing.Number

-- relation NAME NUMBER
unfoldable pub relation_at : List Word → Result Statement Kind
relation_at words = name_at words >>= (λ x. columns_at x.0 x.1)

abbrev pub replaced_at : NullName → List Word → Result WrittenOperation Kind
replaced_at n [] = wants missing.Value
replaced_at n (w ∷ rest) = value_of w >>= (λ d. end_at rest >>= (λ _. Ok (ReplaceNull n d)))

abbrev pub with_at : NullName → List Word → Result WrittenOperation Kind
with_at n (name m ∷ rest) = if same_name m (codes "with") then replaced_at n rest else wants missing.With
with_at n _ = wants missing.With

-- NULL with VALUE
unfoldable pub replace_at : List Word → Result WrittenOperation Kind
replace_at (null u k ∷ rest) = with_at (outer_null u k) rest
replace_at _ = wants missing.Null

-- After a curator: insert FACT | delete FACT | replace NULL with VALUE | in format 2 also mapping NAME : ..
unfoldable pub operation_at : ℕ → List Word → Result WrittenOperation Kind
operation_at format (name n ∷ rest) =
    if same_name n (codes "insert") then whole (fact_at rest) >>= (λ fact. Ok (InsertFact fact))
    else if same_name n (codes "delete") then whole (fact_at rest) >>= (λ fact. Ok (DeleteFact fact))
    else if same_name n (codes "replace") then replace_at rest
    else if same_name n (codes "mapping") && (format == 2) then mapping_at rest >>= (λ m. Ok (AddMapping m))
    else wants missing.Operation
operation_at format _ = wants missing.Operation

-- update LABEL CURATOR ..
unfoldable pub update_at : ℕ → List Word → Result Statement Kind
update_at format words = do
  label ← name_at words
  curator ← name_at label.1
  operation ← operation_at format curator.1
  Ok (Update label.0 curator.0 operation)

-- After an answer's label: expand | unify FACT | delete FACT {, FACT}
unfoldable pub choice_at : List Word → Result WrittenChoice Kind
choice_at (name n ∷ rest) =
    if same_name n (codes "expand") then end_at rest >>= (λ _. Ok ExpandFact)
    else if same_name n (codes "unify") then whole (fact_at rest) >>= (λ fact. Ok (UnifyFact fact))
    else if same_name n (codes "delete") then facts_at rest >>= (λ facts. Ok (DeleteFacts facts))
    else wants missing.Choice
choice_at _ = wants missing.Choice

-- answer LABEL ..
unfoldable pub answer_at : List Word → Result Statement Kind
answer_at words = do
  label ← name_at words
  choice ← choice_at label.1
  Ok (Answer label.0 choice)

-- the first word is the word of a statement whose section is not over
abbrev pub begins : Section → Name → Name → Section → Bool
begins section n word own = same_name n word && nat_le (rank section) (rank own)

-- the statement that the first word of a line names
unfoldable pub named_at : Section → ℕ → Name → List Word → Result Statement Kind
named_at section format n rest =
    if begins section n (codes "relation") Relations then relation_at rest
    else if begins section n (codes "mapping") Mappings then mapping_at rest >>= (λ m. Ok (Mapping m))
    else if begins section n (codes "base") Tuples then whole (fact_at rest) >>= (λ fact. Ok (Base fact))
    else if begins section n (codes "update") Updates then update_at format rest
    else if begins section n (codes "answer") Updates then answer_at rest
    else if begins section n (codes "end") Ended then end_at rest >>= (λ _. Ok End)
    else wants missing.Statement

-- The statement of a line that is not blank, in a section of a session of a format. The first statement is the header.
unfoldable pub statement_at : Section → ℕ → List Word → Result Statement Kind
statement_at Beginning format words = header_at words
statement_at section format (name n ∷ rest) = named_at section format n rest
statement_at section format _ = wants missing.Statement
