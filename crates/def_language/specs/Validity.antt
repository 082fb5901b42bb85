-- The properties of every session that bytes can spell. Printing needs no others.
use Rattle.std.specs.Prelude.{◌≡◌, ℕ, ◌+◌, ◌^◌, ◌<◌, ◌≤◌, ◌⊎◌, true, false, List, [], ◌∷◌, ◌++◌, length, flat_map, nat_eq, IsUtf8, Some, slice_get}
use Rattle.std.specs.List.{AllByRecursion, range_with_len}
use Rattle.def_chase.specs.Values.{Datum, Number, Text, Unknown, Fact}
use Rattle.def_chase.specs.Repository.{IsRepository}
use Rattle.def_chase.specs.Mappings.{Slot, Var, Const, Pattern}
use Rattle.def_chase.specs.Updates.{Operation, Adds, Removes, Replaces, Enacts, Choice, Expand, Unify, Drop}
use Rattle.def_language.specs.Names.{Name, is_one_of, firsts}
use Rattle.def_language.specs.Layout.{is_name, IsInteger}
use Rattle.def_language.specs.Sessions.{RelationSchema, SessionMapping, SessionUpdate, SessionData, relation_names, mapping_names, labels, curators, answer_count, initial_mappings, added_mappings, most_relations, most_tuples, most_answers}
use Rattle.def_language.specs.Cycles.{HasPlainCycle}
use Rattle.def_language.specs.Checks.{rules_of}

-- a name is well formed
abbrev pub IsName : Name → Type 0
IsName n = is_name n ≡ true

-- The names, after others: each is well formed, and different from all before it.
abbrev pub AreNew : List Name → List Name → Type 0
AreNew before [] = Unit {0}
AreNew before (n ∷ names) = IsName n × (is_one_of before n ≡ false) × AreNew (before ++ n ∷ []) names

-- names are well formed, and different from each other
abbrev pub AreNames : List Name → Type 0
AreNames names = AreNew [] names

-- a relation has 1 to 8 columns
abbrev pub IsRelation : RelationSchema → Type 0
IsRelation r = (1 ≤ r.arity) × (r.arity ≤ 8)

-- A value of a tuple: an integer of 64 bits, a text of at most 256 bytes of UTF-8, or a null by its outer name, from an update up
-- to `most`.
abbrev pub IsValue : ℕ → Datum → Type 0
IsValue most (Number z) = IsInteger z
IsValue most (Text t) = (length t ≤ 256) × IsUtf8 t
IsValue most (Unknown n) = (n.attempt ≡ 0) × (n.update ≤ most) × (n.place < 2 ^ 32)

-- relation r exists and has `columns` columns
abbrev pub HasColumns : List RelationSchema → ℕ → ℕ → Type 0
HasColumns relations r columns = (s : RelationSchema) × (slice_get relations r ≡ Some s) × (s.arity ≡ columns)

-- a tuple of a relation, with nulls from updates up to `most`
abbrev pub IsFact : List RelationSchema → ℕ → Fact → Type 0
IsFact relations most t = HasColumns relations t.relation (length t.values) × AllByRecursion (IsValue most) t.values

-- a constant of a mapping is a value, but no null
abbrev pub IsConstant : Datum → Type 0
IsConstant (Number z) = IsInteger z
IsConstant (Text t) = (length t ≤ 256) × IsUtf8 t
IsConstant (Unknown n) = ⊥

-- a term over `count` variables
abbrev pub IsSlot : ℕ → Slot → Type 0
IsSlot count (Var v) = v < count
IsSlot count (Const d) = IsConstant d

abbrev pub IsAtom : List RelationSchema → ℕ → Pattern → Type 0
IsAtom relations count a = HasColumns relations a.relation (length a.terms) × AllByRecursion (IsSlot count) a.terms

-- a side has 1 to 8 atoms
abbrev pub IsSide : List RelationSchema → ℕ → List Pattern → Type 0
IsSide relations count atoms = (1 ≤ length atoms) × (length atoms ≤ 8) × AllByRecursion (IsAtom relations count) atoms

-- the variables of atoms, each as often as it stands there
abbrev pub number_in : Slot → List ℕ
number_in (Var v) = v ∷ []
number_in (Const d) = []

abbrev pub numbers_in : List Pattern → List ℕ
numbers_in atoms = flat_map (λ a. flat_map number_in a.terms) atoms

-- A mapping. Its variables have names of their own, and are numbered from 0 by first occurrence, the left side first.
pub record IsMapping (relations : List RelationSchema) (m : SessionMapping) : Type 0 where
  pub names : AreNames m.variables
  pub count : length m.variables ≡ m.rule.universal + m.rule.existential
  pub left : IsSide relations (length m.variables) m.rule.left
  pub right : IsSide relations (length m.variables) m.rule.right
  pub universal : firsts nat_eq (numbers_in m.rule.left) ≡ range_with_len 0 m.rule.universal
  pub all : firsts nat_eq (numbers_in m.rule.left ++ numbers_in m.rule.right) ≡ range_with_len 0 (length m.variables)

-- the operation of an update, with nulls from updates up to `most`
abbrev pub IsOperation : List RelationSchema → ℕ → Operation → Type 0
IsOperation relations most (Adds t) = IsFact relations most t
IsOperation relations most (Removes t) = IsFact relations most t
IsOperation relations most (Replaces n d) = IsValue most (Unknown n) × IsValue most d
IsOperation relations most (Enacts place) = Unit {0}

abbrev pub IsChoice : List RelationSchema → ℕ → Choice → Type 0
IsChoice relations most Expand = Unit {0}
IsChoice relations most (Unify t) = IsFact relations most t
IsChoice relations most (Drop ts) = (1 ≤ length ts) × AllByRecursion (IsFact relations most) ts

-- An update after `before` others. The nulls of its operation come from those, the nulls of its answers also from itself.
abbrev pub IsUpdate : List RelationSchema → ℕ → SessionUpdate → Type 0
IsUpdate relations before u = IsName u.curator × IsOperation relations before u.operation × AllByRecursion (IsChoice relations (before + 1)) u.answers

abbrev pub AreUpdates : List RelationSchema → ℕ → List SessionUpdate → Type 0
AreUpdates relations before [] = Unit {0}
AreUpdates relations before (u ∷ updates) = IsUpdate relations before u × AreUpdates relations (before + 1) updates

-- the mapping that an operation adds, with the number of its update
abbrev pub enacted : ℕ → Operation → List (ℕ × ℕ)
enacted number (Adds t) = []
enacted number (Removes t) = []
enacted number (Replaces n d) = []
enacted number (Enacts place) = (place, number) ∷ []

-- the mappings that updates add, each with the number of its update; the first update has this number
abbrev pub enactments : ℕ → List SessionUpdate → List (ℕ × ℕ)
enactments number [] = []
enactments number (u ∷ updates) = enacted number u.operation ++ enactments (number + 1) updates

-- the mappings, numbered from `place` on, each with the number of the update that puts it in force
abbrev pub sinces : ℕ → List SessionMapping → List (ℕ × ℕ)
sinces place [] = []
sinces place (m ∷ mappings) = (place, m.rule.since) ∷ sinces (place + 1) mappings

-- A session that passes all checks.
pub record IsSession (s : SessionData) : Type 0 where
  pub format : (s.format ≡ 1) ⊎ (s.format ≡ 2)
  -- relations
  pub relation_names : AreNames (relation_names s.relations)
  pub relations : AllByRecursion IsRelation s.relations
  pub relation_count : length s.relations ≤ most_relations s.format
  -- mappings: those that updates add come after the others, in the order of the updates; format 1 has none of these
  pub mapping_names : AreNames (mapping_names s.mappings)
  pub mappings : AllByRecursion (IsMapping s.relations) s.mappings
  pub mapping_count : length s.mappings ≤ 64
  pub added_count : length (added_mappings s.mappings) ≤ 16
  pub added_last : s.mappings ≡ initial_mappings s.mappings ++ added_mappings s.mappings
  pub added_by_updates : enactments 1 s.updates ≡ sinces (length (initial_mappings s.mappings)) (added_mappings s.mappings)
  pub added_format : s.format ≡ 1 → added_mappings s.mappings ≡ []
  pub no_cycle : HasPlainCycle (length s.relations) (rules_of s.mappings) → ⊥
  -- the base
  pub base_order : IsRepository s.base
  pub base : AllByRecursion (IsFact s.relations 0) s.base
  pub base_count : length s.base ≤ most_tuples s.format
  -- updates and answers
  pub labels : AreNames (labels s.updates)
  pub updates : AreUpdates s.relations 0 s.updates
  pub update_count : length s.updates ≤ 1000
  pub curator_count : length (curators s.updates) ≤ 64
  pub answers : answer_count s.updates ≤ most_answers s.format
