-- The meanings of written facts and mappings over the relations: numbers in place of names. The checks come in their order.
use Rattle.std.specs.Prelude.{ℕ, ◌-◌, ◌==◌, nat_lt, List, [], ◌∷◌, ◌++◌, map, length, flat_map, Option, Some, None, slice_get, Result, Ok, Err, if◌then◌else◌}
use Rattle.def_chase.specs.Values.{Datum, Number, Text, Unknown, Fact}
use Rattle.def_chase.specs.Mappings.{Slot, Var, Const, Pattern}
use Rattle.def_language.specs.Faults.{Kind, UnknownRelation, Arity, EmptySide, TooManyAtoms, NullNotBelow}
use Rattle.def_language.specs.Reading.{◌>>=◌, each}
use Rattle.def_language.specs.Names.{Name, same_name, place_of, firsts}
use Rattle.def_language.specs.Statements.{WrittenFact, WrittenTerm, Variable, Constant, WrittenAtom, WrittenMapping}
use Rattle.def_language.specs.Sessions.{RelationSchema, SessionMapping, relation_names}

-- the place of a name, if its relation was found and has `columns` columns
abbrev pub fitted : Name → ℕ → ℕ → Option RelationSchema → Result ℕ Kind
fitted n columns place None = Err (UnknownRelation n)
fitted n columns place (Some r) = if r.arity == columns then Ok place else Err (Arity n r.arity columns)

-- the number of the relation with this name, used with `columns` columns
unfoldable pub relation_of : List RelationSchema → Name → ℕ → Result ℕ Kind
relation_of relations n columns = fitted n columns (place_of (relation_names relations) n) (slice_get relations (place_of (relation_names relations) n))

-- the tuple of a fact
unfoldable pub fact_of : List RelationSchema → WrittenFact → Result Fact Kind
fact_of relations fact = relation_of relations fact.relation (length fact.values) >>= (λ r. Ok (record { relation = r; values = fact.values }))

-- the check of each null from the left: its update is at most `most`
unfoldable pub nulls_within : ℕ → List Datum → Result (Unit {0}) Kind
nulls_within most [] = Ok tt
nulls_within most (Unknown n ∷ ds) = if nat_lt most n.update then Err (NullNotBelow n.update n.place) else nulls_within most ds
nulls_within most (Number z ∷ ds) = nulls_within most ds
nulls_within most (Text t ∷ ds) = nulls_within most ds

-- the tuple of a fact, whose nulls must come from updates up to `most`
unfoldable pub bounded_fact : List RelationSchema → ℕ → WrittenFact → Result Fact Kind
bounded_fact relations most fact = fact_of relations fact >>= (λ t. nulls_within most t.values >>= (λ _. Ok t))

-- the term as a list of one variable; empty if it is a constant
abbrev pub variable_of : WrittenTerm → List Name
variable_of (Variable n) = n ∷ []
variable_of (Constant d) = []

-- the variables of atoms, each as often as it stands there
abbrev pub variables_in : List WrittenAtom → List Name
variables_in atoms = flat_map (λ a. flat_map variable_of a.terms) atoms

-- the variables of a mapping, by first occurrence, the left side first
abbrev pub variables_of : WrittenMapping → List Name
variables_of m = firsts same_name (variables_in m.left ++ variables_in m.right)

-- a term, with its variable by number
abbrev pub slot_of : List Name → WrittenTerm → Slot
slot_of variables (Variable n) = Var (place_of variables n)
slot_of variables (Constant d) = Const d

-- an atom, with relation and variables by number
unfoldable pub pattern_of : List RelationSchema → List Name → WrittenAtom → Result Pattern Kind
pattern_of relations variables a = relation_of relations a.relation (length a.terms) >>= (λ r. Ok (record { relation = r; terms = map (slot_of variables) a.terms }))

-- the check that a side has an atom
abbrev pub some_atoms : List WrittenAtom → Result (Unit {0}) Kind
some_atoms [] = Err EmptySide
some_atoms (a ∷ atoms) = Ok tt

-- the check that a side has at most 8 atoms
abbrev pub few_atoms : List WrittenAtom → Result (Unit {0}) Kind
few_atoms atoms = if nat_lt 8 (length atoms) then Err TooManyAtoms else Ok tt

-- A mapping, which update `since` puts in force or, if `since` is 0, is there from the start.
unfoldable pub mapping_of : List RelationSchema → ℕ → WrittenMapping → Result SessionMapping Kind
mapping_of relations since m = do
  left_some ← some_atoms m.left
  right_some ← some_atoms m.right
  left_few ← few_atoms m.left
  right_few ← few_atoms m.right
  left ← each (pattern_of relations (variables_of m)) m.left
  right ← each (pattern_of relations (variables_of m)) m.right
  let universal : ℕ = length (firsts same_name (variables_in m.left))
  Ok (record {
    name = m.name;
    variables = variables_of m;
    rule = record { since = since; universal = universal; existential = length (variables_of m) - universal; left = left; right = right };
  })
