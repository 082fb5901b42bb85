-- The printed form of values, tuples, mappings and sessions.
use Rattle.std.specs.Prelude.{ℕ, pos, Bool, ◌==◌, List, [], ◌∷◌, ◌++◌, map, flat_map, slice_index_or, Result, Ok, Err, if◌then◌else◌}
use Rattle.std.specs.Fmt.{decimal, signed_decimal}
use Rattle.def_chase.specs.Values.{NullName, Datum, Number, Text, Unknown, Fact}
use Rattle.def_chase.specs.Mappings.{Slot, Var, Const, Pattern, force_relation}
use Rattle.def_chase.specs.Updates.{Operation, Adds, Removes, Replaces, Enacts, Choice, Expand, Unify, Drop}
use Rattle.def_language.specs.Faults.{Wrong}
use Rattle.def_language.specs.Names.{Name}
use Rattle.def_language.specs.Statements.{WrittenFact, WrittenTerm, Variable, Constant, WrittenAtom, WrittenMapping, WrittenOperation, InsertFact, DeleteFact, ReplaceNull, AddMapping, WrittenChoice, ExpandFact, UnifyFact, DeleteFacts, Statement, Header, Relation, Mapping, Base, Update, Answer, End}
use Rattle.def_language.specs.Grammar.{statement_words}
use Rattle.def_language.specs.Layout.{quoted, null_text, laid_out}
use Rattle.def_language.specs.Sessions.{RelationSchema, SessionMapping, SessionUpdate, SessionData, relation_names, initial_mappings}

-- the name at a place of a list
abbrev pub name_of : List Name → ℕ → Name
name_of names place = slice_index_or names place []

-- A null by its outer name `?u.k`, or by its inner name `?u.k@a` with the attempt.
abbrev pub null_name_text : Bool → NullName → List ℕ
null_name_text inner n = if inner then null_text n.update n.place ++ (64 ∷ decimal n.attempt) else null_text n.update n.place

abbrev pub value_text : Bool → Datum → List ℕ
value_text inner (Number z) = signed_decimal z
value_text inner (Text t) = quoted t
value_text inner (Unknown n) = null_name_text inner n

-- items with a comma and a space between them
abbrev pub joined_text : {A : Type 0} → (A → List ℕ) → List A → List ℕ
joined_text text [] = []
joined_text text (x ∷ xs) = text x ++ flat_map (λ y. 44 ∷ 32 ∷ text y) xs

-- A tuple: its relation and its values. A tuple that says that a mapping was put in force is `*` and the mapping's number.
abbrev pub tuple_text : List RelationSchema → Bool → Fact → List ℕ
tuple_text relations inner t =
    if t.relation == force_relation then 42 ∷ joined_text (value_text inner) t.values
    else name_of (relation_names relations) t.relation ++ (40 ∷ (joined_text (value_text inner) t.values ++ 41 ∷ []))

-- A tuple, an atom and a mapping as they are written, with names in place of numbers.
abbrev pub written_fact : List RelationSchema → Fact → WrittenFact
written_fact relations t = record { relation = name_of (relation_names relations) t.relation; values = t.values }

abbrev pub written_term : List Name → Slot → WrittenTerm
written_term variables (Var v) = Variable (name_of variables v)
written_term variables (Const d) = Constant d

abbrev pub written_atom : List RelationSchema → List Name → Pattern → WrittenAtom
written_atom relations variables a = record { relation = name_of (relation_names relations) a.relation; terms = map (written_term variables) a.terms }

abbrev pub written_mapping : List RelationSchema → SessionMapping → WrittenMapping
written_mapping relations m =
    record { name = m.name; left = map (written_atom relations m.variables) m.rule.left; right = map (written_atom relations m.variables) m.rule.right }

-- the mapping that stands for a number that no mapping has
abbrev pub no_mapping : SessionMapping
no_mapping = record { name = []; variables = []; rule = record { since = 0; universal = 0; existential = 0; left = []; right = [] } }

-- an update's operation, with the mapping that it adds written out
abbrev pub written_operation : SessionData → Operation → WrittenOperation
written_operation s (Adds t) = InsertFact (written_fact s.relations t)
written_operation s (Removes t) = DeleteFact (written_fact s.relations t)
written_operation s (Replaces n d) = ReplaceNull n d
written_operation s (Enacts place) = AddMapping (written_mapping s.relations (slice_index_or s.mappings place no_mapping))

abbrev pub written_choice : List RelationSchema → Choice → WrittenChoice
written_choice relations Expand = ExpandFact
written_choice relations (Unify t) = UnifyFact (written_fact relations t)
written_choice relations (Drop ts) = DeleteFacts (map (written_fact relations) ts)

-- an update, and then its answers
abbrev pub update_statements : SessionData → SessionUpdate → List Statement
update_statements s u =
    Update u.label u.curator (written_operation s u.operation) ∷ map (λ choice. Answer u.label (written_choice s.relations choice)) u.answers

-- The statements of a session: header, relations, mappings, the base in tuple order, the updates in order, each
-- followed by its answers, and the end.
abbrev pub statements_of : SessionData → List Statement
statements_of s =
    Header s.format ∷ (map (λ r. Relation r.name (pos r.arity)) s.relations
    ++ (map (λ m. Mapping (written_mapping s.relations m)) (initial_mappings s.mappings)
    ++ (map (λ t. Base (written_fact s.relations t)) s.base
    ++ (flat_map (update_statements s) s.updates ++ End ∷ []))))

-- a line with its line feed
abbrev pub line_text : Statement → List ℕ
line_text statement = laid_out (statement_words statement) ++ 10 ∷ []

-- The printed form of a session: each statement on a line of its own.
abbrev pub printed : SessionData → List ℕ
printed s = flat_map line_text (statements_of s)

-- the output of the command `format` on the session that was read; empty if none was
abbrev pub printed_text : Result SessionData Wrong → List ℕ
printed_text (Ok s) = printed s
printed_text (Err wrong) = []
