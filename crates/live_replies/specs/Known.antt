-- Operations and choices over the relations of the session; None if a fact's relation is unknown, or has another number of
-- columns.
use Rattle.std.specs.Prelude.{List, [], ◌∷◌, Option, Some, None, option_map, option_and_then}
use Rattle.def_language.specs.Meaning.{fact_of}
use Rattle.def_language.specs.Sessions.{RelationSchema}
use Rattle.def_language.specs.Statements.{WrittenFact, WrittenOperation, InsertFact, DeleteFact, ReplaceNull, AddMapping, WrittenChoice, ExpandFact, UnifyFact, DeleteFacts}
use Rattle.def_chase.specs.Updates.{Operation, Adds, Removes, Replaces, Choice, Expand, Unify, Drop}
use Rattle.def_chase.specs.Values.{Fact}
use Rattle.lang_reader.specs.Facts.{known_fact}

-- the operation; no line asks for one that adds a mapping
abbrev pub known_operation : List RelationSchema → WrittenOperation → Option Operation
known_operation relations (InsertFact fact) = option_map Adds (known_fact (fact_of relations fact))
known_operation relations (DeleteFact fact) = option_map Removes (known_fact (fact_of relations fact))
known_operation relations (ReplaceNull n d) = Some (Replaces n d)
known_operation relations (AddMapping m) = None

-- the tuples of facts
abbrev pub known_facts : List RelationSchema → List WrittenFact → Option (List Fact)
known_facts relations [] = Some []
known_facts relations (fact ∷ facts) =
    option_and_then (λ t. option_map (λ ts. t ∷ ts) (known_facts relations facts)) (known_fact (fact_of relations fact))

-- the choice
abbrev pub known_choice : List RelationSchema → WrittenChoice → Option Choice
known_choice relations ExpandFact = Some Expand
known_choice relations (UnifyFact fact) = option_map Unify (known_fact (fact_of relations fact))
known_choice relations (DeleteFacts facts) = option_map Drop (known_facts relations facts)
