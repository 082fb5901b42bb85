-- The session of a count of updates and a seed.
use Rattle.std.specs.Prelude.{ℕ, zero, suc, ◌+◌, ◌-◌, ◌%◌, ◌==◌, nat_lt, if◌then◌else◌, List, [], ◌∷◌, ◌++◌, codes}
use Rattle.std.specs.Fmt.{decimal}
use Rattle.def_chase.specs.Values.{Datum, Fact}
use Rattle.def_chase.specs.Mappings.{Var, Pattern, Rule}
use Rattle.def_chase.specs.Updates.{Operation, Adds, Removes, Choice, Expand}
use Rattle.def_language.specs.Names.{Name}
use Rattle.def_language.specs.Sessions.{RelationSchema, SessionMapping, SessionUpdate, SessionData}
use Rattle.run_drill.specs.Draws.{next, drawn}
use Rattle.run_drill.specs.Columns.{columns, after}

-- What an update does: it inserts or deletes a tuple of this relation, with numbers below these limits.
pub data Kind : Type 0 where
  Inserts : ℕ → List ℕ → Kind
  Deletes : ℕ → List ℕ → Kind

-- The kind of an update by a number below 10. The relations are City 0, Country 1, Airport 2 and Tour 3.
abbrev pub kind_of : ℕ → Kind
kind_of k =
    if nat_lt k 4 then Inserts 0 (50 ∷ 20 ∷ [])
    else if nat_lt k 6 then Inserts 2 (200 ∷ 50 ∷ [])
    else if nat_lt k 8 then Inserts 3 (100 ∷ 50 ∷ 50 ∷ [])
    else if k == 8 then Deletes 0 (50 ∷ 20 ∷ [])
    else Inserts 1 (20 ∷ 20 ∷ [])

abbrev pub below_in : Kind → List ℕ
below_in (Inserts r ms) = ms
below_in (Deletes r ms) = ms

abbrev pub fact : ℕ → List Datum → Fact
fact r ds = record { relation = r; values = ds }

-- The operation of a kind, with the columns drawn from this state on.
abbrev pub operation_of : Kind → ℕ → Operation
operation_of (Inserts r ms) x = Adds (fact r (columns ms x))
operation_of (Deletes r ms) x = Removes (fact r (columns ms x))

abbrev pub label : ℕ → Name
label n = codes "u" ++ decimal n

-- Twelve curators take turns.
abbrev pub curator : ℕ → Name
curator n = codes "c" ++ decimal ((n - 1) % 12)

abbrev pub expansions : List Choice
expansions = Expand ∷ Expand ∷ Expand ∷ Expand ∷ []

-- The kind that is drawn in this state.
abbrev pub kind_at : ℕ → Kind
kind_at x = kind_of (drawn 10 (next x))

-- The update of number n that is drawn in this state, and the state after it.
abbrev pub update_at : ℕ → ℕ → SessionUpdate
update_at n x = record { label = label n; curator = curator n; operation = operation_of (kind_at x) (next x); answers = expansions }

abbrev pub after_update : ℕ → ℕ
after_update x = after (below_in (kind_at x)) (next x)

-- The updates of this count, the first of number n.
abbrev pub updates_from : ℕ → ℕ → ℕ → List SessionUpdate
updates_from n zero x = []
updates_from n (suc k) x = update_at n x ∷ updates_from (n + 1) k (after_update x)

-- ---- the relations and the mappings of every drilled session

abbrev pub atom : ℕ → List ℕ → Pattern
atom r vs = record { relation = r; terms = Rattle.std.specs.Prelude.map Var vs }

abbrev pub relation : Name → ℕ → RelationSchema
relation name arity = record { name = name; arity = arity }

abbrev pub relations : List RelationSchema
relations = relation (codes "City") 2 ∷ relation (codes "Country") 2 ∷ relation (codes "Airport") 2 ∷ relation (codes "Tour") 3 ∷ []

abbrev pub rule : ℕ → ℕ → List Pattern → List Pattern → Rule
rule universal existential left right = record { since = 0; universal = universal; existential = existential; left = left; right = right }

-- City(x, c) -> Country(c, z)
abbrev pub m1 : SessionMapping
m1 =
    record {
      name = codes "m1";
      variables = codes "x" ∷ codes "c" ∷ codes "z" ∷ [];
      rule = rule 2 1 (atom 0 (0 ∷ 1 ∷ []) ∷ []) (atom 1 (1 ∷ 2 ∷ []) ∷ []);
    }

-- Airport(a, x) -> City(x, c)
abbrev pub m2 : SessionMapping
m2 =
    record {
      name = codes "m2";
      variables = codes "a" ∷ codes "x" ∷ codes "c" ∷ [];
      rule = rule 2 1 (atom 2 (0 ∷ 1 ∷ []) ∷ []) (atom 0 (1 ∷ 2 ∷ []) ∷ []);
    }

-- Tour(t, x, y) -> City(x, c), City(y, d)
abbrev pub m3 : SessionMapping
m3 =
    record {
      name = codes "m3";
      variables = codes "t" ∷ codes "x" ∷ codes "y" ∷ codes "c" ∷ codes "d" ∷ [];
      rule = rule 3 2 (atom 3 (0 ∷ 1 ∷ 2 ∷ []) ∷ []) (atom 0 (1 ∷ 3 ∷ []) ∷ atom 0 (2 ∷ 4 ∷ []) ∷ []);
    }

abbrev pub with_updates : List SessionUpdate → SessionData
with_updates us = record { format = 1; relations = relations; mappings = m1 ∷ m2 ∷ m3 ∷ []; base = []; updates = us }

-- The session of `count` updates, with the draws of this seed.
abbrev pub drilled : ℕ → ℕ → SessionData
drilled count seed = with_updates (updates_from 1 count seed)

-- How the relations and the mappings are written.
abbrev pub blank_text : List ℕ
blank_text =
    codes
    "youtopia 1\nrelation City 2\nrelation Country 2\nrelation Airport 2\nrelation Tour 3\nmapping m1: City(x, c) -> Country(c, z)\nmapping m2: Airport(a, x) -> City(x, c)\nmapping m3: Tour(t, x, y) -> City(x, c), City(y, d)\nend\n"
