-- Queries over the relations of a schema.
use Rattle.std.specs.Prelude.{◌≡◌, ℕ, List, map, Result, Ok, Err}
use Rattle.def_language.specs.Faults.{Kind, UnknownRelation, Arity}
use Rattle.base_types.specs.Listed.{Listed}
use Rattle.def_language.specs.Names.{Name, place_of}
use Rattle.def_language.specs.Reading.{◌>>=◌}
use Rattle.def_language.specs.Sessions.{RelationSchema}
use Rattle.lang_schema.specs.Meanings.{atom_of}
use Rattle.lang_schema.specs.Relations.{numbered_atoms}
use Rattle.lang_schema.specs.declared.refusals.SchemaRefusal.{SchemaRefusal}
use Rattle.lang_schema.specs.declared.refusals.SchemaRefusal.TheVariants as schema
use Rattle.run_ask.specs.Certain.{ConjunctiveQuery}
use Rattle.run_ask.specs.Written.{WrittenAsk}
use Rattle.run_ask.specs.declared.queries.RawAsk.{RawAsk}
use Rattle.run_ask.specs.declared.refusals.AskRefusal.{AskRefusal}
use Rattle.run_ask.specs.declared.refusals.AskRefusal.TheVariants as refusal

-- names, by their bytes
abbrev pub names_of : List (Listed ℕ) → List Name
names_of names = map (λ n. n.items) names

-- the query that a `RawAsk` stands for
abbrev pub written_of : RawAsk → WrittenAsk
written_of raw = record { head = names_of raw.head.items; body = map atom_of raw.body.items }

-- The query over the relations: numbers in place of names, the variables by first occurrence in the body. The first atom from
-- the left whose relation is unknown or has another number of columns is at fault.
unfoldable pub bound_ask : List RelationSchema → WrittenAsk → Result ConjunctiveQuery Kind
bound_ask relations q = numbered_atoms relations q.body >>= (λ x. Ok (record { head = map (place_of x.1) q.head; body = x.0 }))

-- a refusal of atoms: a relation that is unknown, or that has another number of columns
abbrev pub IsOfAtoms : SchemaRefusal → Type 0
IsOfAtoms (schema.UnknownRelation n) = Unit {0}
IsOfAtoms (schema.Arity n columns found) = Unit {0}
IsOfAtoms schema.Memory = Unit {0}
IsOfAtoms _ = ⊥

-- a refusal of atoms as one of the query
abbrev pub of_query : SchemaRefusal → AskRefusal
of_query (schema.UnknownRelation n) = refusal.UnknownRelation n
of_query (schema.Arity n columns found) = refusal.Arity n columns found
of_query _ = refusal.Memory

-- a refusal is the fault of the query; want of memory may come in place of any answer
abbrev pub Refuses : {Y : Type 0} → AskRefusal → Result Y Kind → Type 0
Refuses (refusal.UnknownRelation n) read = read ≡ Err (UnknownRelation n.items)
Refuses (refusal.Arity n columns found) read = read ≡ Err (Arity n.items columns found)
Refuses refusal.Memory read = Unit {0}

-- an answer, seen by `view`, is what the query is over the relations
abbrev pub Gives : {X Y : Type 0} → (X → Y) → Result X AskRefusal → Result Y Kind → Type 0
Gives view (Ok x) read = read ≡ Ok (view x)
Gives view (Err e) read = Refuses e read
