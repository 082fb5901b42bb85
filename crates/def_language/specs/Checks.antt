-- The addition of each statement to a session, with its checks in their order.
use Rattle.std.specs.Prelude.{ℕ, ℤ, pos, negsuc, ◌+◌, Bool, false, not, ◌&&◌, ◌||◌, ◌==◌, nat_le, List, [], ◌∷◌, ◌++◌, map, length, Option, Some, None, slice_get, slice_set, Result, Ok, Err, if◌then◌else◌}
use Rattle.def_chase.specs.Values.{Unknown}
use Rattle.def_chase.specs.Repository.{Insert, has, change}
use Rattle.def_chase.specs.Mappings.{Rule}
use Rattle.def_chase.specs.Updates.{Operation, Adds, Removes, Replaces, Enacts, Choice, Expand, Unify, Drop}
use Rattle.def_language.specs.declared.Which.{Which}
use Rattle.def_language.specs.declared.Which.TheVariants as limit
use Rattle.def_language.specs.Faults.{Kind, DuplicateName, PlainCycle, UnknownLabel, LimitReached}
use Rattle.def_language.specs.Reading.{◌>>=◌, each}
use Rattle.def_language.specs.Names.{Name, is_one_of, place_of}
use Rattle.def_language.specs.Statements.{WrittenFact, WrittenMapping, WrittenOperation, InsertFact, DeleteFact, ReplaceNull, AddMapping, WrittenChoice, ExpandFact, UnifyFact, DeleteFacts, Statement, Header, Relation, Mapping, Base, Update, Answer, End}
use Rattle.def_language.specs.Sessions.{RelationSchema, SessionMapping, SessionUpdate, SessionData, empty_session, relation_names, mapping_names, labels, curators, answer_count, added_mappings, most_relations, most_tuples, most_answers}
use Rattle.def_language.specs.Forms.{natural}
use Rattle.def_language.specs.Cycles.{has_plain_cycle}
use Rattle.def_language.specs.Meaning.{nulls_within, bounded_fact, mapping_of}

-- the name is not in the list
abbrev pub unused : List Name → Name → Result (Unit {0}) Kind
unused names n = if is_one_of names n then Err (DuplicateName n) else Ok tt

-- the limit is not reached
abbrev pub within : Which → Bool → Result (Unit {0}) Kind
within which reached = if reached then Err (LimitReached which) else Ok tt

-- 1 to 8
abbrev pub is_arity : ℤ → Bool
is_arity (pos n) = nat_le 1 n && nat_le n 8
is_arity (negsuc n) = false

-- relation NAME NUMBER
unfoldable pub add_relation : SessionData → Name → ℤ → Result SessionData Kind
add_relation s n columns = do
  fresh ← unused (relation_names s.relations) n
  fits ← within limit.Arity (not (is_arity columns))
  room ← within limit.Relations (nat_le (most_relations s.format) (length s.relations))
  Ok (record s { relations = s.relations ++ record { name = n; arity = natural columns } ∷ [] })

-- there is no room for one more mapping, which update `since` adds or, if `since` is 0, is there from the start
abbrev pub mappings_full : List SessionMapping → ℕ → Bool
mappings_full mappings since = nat_le 64 (length mappings) || (not (since == 0) && nat_le 16 (length (added_mappings mappings)))

-- the rules of the mappings
abbrev pub rules_of : List SessionMapping → List Rule
rules_of mappings = map (λ m. m.rule) mappings

-- the mappings have no plain cycle after this one is added
abbrev pub acyclic : SessionData → SessionMapping → Result (Unit {0}) Kind
acyclic s m = if has_plain_cycle (length s.relations) (rules_of (s.mappings ++ m ∷ [])) then Err (PlainCycle m.name) else Ok tt

-- mapping NAME : .., of the session, or of an update
unfoldable pub add_mapping : SessionData → ℕ → WrittenMapping → Result SessionData Kind
add_mapping s since written = do
  fresh ← unused (mapping_names s.mappings) written.name
  room ← within limit.Mappings (mappings_full s.mappings since)
  m ← mapping_of s.relations since written
  no_cycle ← acyclic s m
  Ok (record s { mappings = s.mappings ++ m ∷ [] })

-- base FACT: a tuple that is given twice is kept once
unfoldable pub add_tuple : SessionData → WrittenFact → Result SessionData Kind
add_tuple s fact = do
  t ← bounded_fact s.relations 0 fact
  room ← within limit.Base (not (has s.base t) && nat_le (most_tuples s.format) (length s.base))
  Ok (record s { base = change s.base (Insert t) })

-- the update's operation, and the session with the mapping that it adds
abbrev pub Performed : Type 0
Performed = Operation × SessionData

-- The operation of the next update of the session. Its nulls must come from updates below it.
unfoldable pub operation_of : SessionData → WrittenOperation → Result Performed Kind
operation_of s (InsertFact fact) = bounded_fact s.relations (length s.updates) fact >>= (λ t. Ok (Adds t, s))
operation_of s (DeleteFact fact) = bounded_fact s.relations (length s.updates) fact >>= (λ t. Ok (Removes t, s))
operation_of s (ReplaceNull n d) = nulls_within (length s.updates) (Unknown n ∷ d ∷ []) >>= (λ _. Ok (Replaces n d, s))
operation_of s (AddMapping m) = add_mapping s (length s.updates + 1) m >>= (λ with_mapping. Ok (Enacts (length s.mappings), with_mapping))

-- there is no room for one more curator
abbrev pub curators_full : List SessionUpdate → Name → Bool
curators_full updates curator = not (is_one_of (curators updates) curator) && nat_le 64 (length (curators updates))

-- update LABEL CURATOR ..
unfoldable pub add_update : SessionData → Name → Name → WrittenOperation → Result SessionData Kind
add_update s label curator written = do
  fresh ← unused (labels s.updates) label
  room ← within limit.Updates (nat_le 1000 (length s.updates))
  places ← within limit.Curators (curators_full s.updates curator)
  performed ← operation_of s written
  Ok (record performed.1 { updates = s.updates ++ record { label = label; curator = curator; operation = performed.0; answers = [] } ∷ [] })

-- An answer to a question of update `most`. Its nulls must come from updates up to that one.
unfoldable pub choice_of : List RelationSchema → ℕ → WrittenChoice → Result Choice Kind
choice_of relations most ExpandFact = Ok Expand
choice_of relations most (UnifyFact fact) = bounded_fact relations most fact >>= (λ t. Ok (Unify t))
choice_of relations most (DeleteFacts facts) = each (bounded_fact relations most) facts >>= (λ ts. Ok (Drop ts))

-- the update with one more answer
abbrev pub with_answer : SessionUpdate → Choice → SessionUpdate
with_answer u choice = record u { answers = u.answers ++ choice ∷ [] }

-- an answer to the update at a place, if there is one
abbrev pub answered : SessionData → Name → WrittenChoice → ℕ → Option SessionUpdate → Result SessionData Kind
answered s label written place None = Err (UnknownLabel label)
answered s label written place (Some u) = do
  room ← within limit.Answers (nat_le (most_answers s.format) (answer_count s.updates))
  choice ← choice_of s.relations (place + 1) written
  Ok (record s { updates = slice_set s.updates place (with_answer u choice) })

-- answer LABEL ..
unfoldable pub add_answer : SessionData → Name → WrittenChoice → Result SessionData Kind
add_answer s label written = answered s label written (place_of (labels s.updates) label) (slice_get s.updates (place_of (labels s.updates) label))

-- the session with the addition of a statement
abbrev pub taken : SessionData → Statement → Result SessionData Kind
taken s (Header format) = Ok (empty_session format)
taken s (Relation n columns) = add_relation s n columns
taken s (Mapping m) = add_mapping s 0 m
taken s (Base fact) = add_tuple s fact
taken s (Update label curator operation) = add_update s label curator operation
taken s (Answer label choice) = add_answer s label choice
taken s End = Ok s
