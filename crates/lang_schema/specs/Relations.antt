-- A schema as the beginning of a session, and the checks of a mapping over it in two parts.
use Rattle.std.specs.Prelude.{ℕ, ◌-◌, List, [], ◌∷◌, length, Result, Ok}
use Rattle.def_chase.specs.Mappings.{Pattern}
use Rattle.def_language.specs.Faults.{Kind}
use Rattle.def_language.specs.Names.{Name, same_name, firsts}
use Rattle.def_language.specs.Reading.{◌>>=◌, each}
use Rattle.def_language.specs.Statements.{WrittenAtom, WrittenMapping}
use Rattle.def_language.specs.Sessions.{RelationSchema, SessionMapping, SessionData, empty_session}
use Rattle.def_language.specs.Meaning.{few_atoms, pattern_of, relation_of, some_atoms, variables_in, variables_of}

-- the session of format 2 that has these relations and nothing else
abbrev pub with_relations : List RelationSchema → SessionData
with_relations relations = record (empty_session 2) { relations = relations }

-- each side has 1 to 8 atoms
unfoldable pub sides_fit : WrittenMapping → Result (Unit {0}) Kind
sides_fit m = some_atoms m.left >>= (λ _. some_atoms m.right >>= (λ _. few_atoms m.left >>= (λ _. few_atoms m.right)))

-- the relations of atoms are known, and have as many columns as the atoms have terms
unfoldable pub atoms_fit : List RelationSchema → List WrittenAtom → Result (Unit {0}) Kind
atoms_fit relations [] = Ok tt
atoms_fit relations (a ∷ atoms) = relation_of relations a.relation (length a.terms) >>= (λ _. atoms_fit relations atoms)

-- a mapping whose sides fit
unfoldable pub mapping_over : List RelationSchema → ℕ → WrittenMapping → Result SessionMapping Kind
mapping_over relations since m =
    each (pattern_of relations (variables_of m)) m.left >>= (λ left.
    each (pattern_of relations (variables_of m)) m.right >>= (λ right.
    Ok (record {
      name = m.name;
      variables = variables_of m;
      rule = record {
        since = since;
        universal = length (firsts same_name (variables_in m.left));
        existential = length (variables_of m) - length (firsts same_name (variables_in m.left));
        left = left;
        right = right;
      };
    })))

-- atoms with relations and variables by number, and the names of the variables, by first occurrence
unfoldable pub numbered_atoms : List RelationSchema → List WrittenAtom → Result (List Pattern × List Name) Kind
numbered_atoms relations atoms = each (pattern_of relations (firsts same_name (variables_in atoms))) atoms >>= (λ patterns. Ok (patterns, firsts same_name (variables_in atoms)))
