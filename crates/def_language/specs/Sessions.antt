-- A session as pure data, and its limits.
use Rattle.std.specs.Prelude.{ℕ, Bool, ◌==◌, not, List, [], map, length, filter, sum_by, if◌then◌else◌}
use Rattle.def_chase.specs.Values.{Fact}
use Rattle.def_chase.specs.Mappings.{Rule}
use Rattle.def_chase.specs.Updates.{Operation, Choice}
use Rattle.def_language.specs.Names.{Name, same_name, firsts}

-- a relation: its name and its number of columns
pub record RelationSchema : Type 0 where
  pub name : Name
  pub arity : ℕ

-- a mapping: its name, the names of its variables by their numbers, and its rule
pub record SessionMapping : Type 0 where
  pub name : Name
  pub variables : List Name
  pub rule : Rule

-- an update with its answers, in the order of the text
pub record SessionUpdate : Type 0 where
  pub label : Name
  pub curator : Name
  pub operation : Operation
  pub answers : List Choice

-- A session. Relations and mappings are numbered from 0 by their places in the lists, updates from 1. The mappings that updates
-- add come after the others. The base is in tuple order and has each tuple once.
pub record SessionData : Type 0 where
  pub format : ℕ
  pub relations : List RelationSchema
  pub mappings : List SessionMapping
  pub base : List Fact
  pub updates : List SessionUpdate

-- the session after the header of a format
abbrev pub empty_session : ℕ → SessionData
empty_session format = record { format = format; relations = []; mappings = []; base = []; updates = [] }

abbrev pub relation_names : List RelationSchema → List Name
relation_names relations = map (λ r. r.name) relations

abbrev pub mapping_names : List SessionMapping → List Name
mapping_names mappings = map (λ m. m.name) mappings

abbrev pub labels : List SessionUpdate → List Name
labels updates = map (λ u. u.label) updates

-- the curators, each once
abbrev pub curators : List SessionUpdate → List Name
curators updates = firsts same_name (map (λ u. u.curator) updates)

-- the number of answers of all updates
abbrev pub answer_count : List SessionUpdate → ℕ
answer_count updates = sum_by (λ u. length u.answers) updates

-- the mapping is one of the session's own, not one that an update adds
abbrev pub is_initial : SessionMapping → Bool
is_initial m = m.rule.since == 0

abbrev pub initial_mappings : List SessionMapping → List SessionMapping
initial_mappings mappings = filter is_initial mappings

abbrev pub added_mappings : List SessionMapping → List SessionMapping
added_mappings mappings = filter (λ m. not (is_initial m)) mappings

-- The limits that depend on the format.
abbrev pub most_relations : ℕ → ℕ
most_relations format = if format == 2 then 128 else 64

abbrev pub most_tuples : ℕ → ℕ
most_tuples format = if format == 2 then 100000 else 20000

abbrev pub most_answers : ℕ → ℕ
most_answers format = if format == 2 then 20000 else 10000
