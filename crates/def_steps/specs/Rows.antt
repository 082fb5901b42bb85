-- Worked rows: the results of the serial machine on small sessions of one update.
use Rattle.std.specs.Prelude.{◌≡◌, ℕ, List, [], ◌∷◌, ◌++◌, codes}
use Rattle.def_machine.specs.Standings.{Missing, Misfit}
use Rattle.def_chase.specs.Values.{Datum, Text, Fact}
use Rattle.def_chase.specs.Mappings.{Var, Rule}
use Rattle.def_chase.specs.Updates.{Adds, Removes, Replaces, Expand, Unify, Drop}
use Rattle.def_steps.specs.Attempts.{Done, Spent, Refused, Positive, Negative}
use Rattle.def_steps.specs.Serial.{serial_result}
use Rattle.def_steps.specs.RowWords.{num, named_null, null, fact, atom, rule, request, repair, ends, all_end, stop_at, one_update}

-- ---- relations A 0, B 1, C 2 of one column

-- A(x) -> B(x)
abbrev pub copying : List Rule
copying = rule 1 0 (atom 0 (Var 0 ∷ []) ∷ []) (atom 1 (Var 0 ∷ []) ∷ []) ∷ []

-- A(x), B(x) -> C(x)
abbrev pub meeting : List Rule
meeting = rule 1 0 (atom 0 (Var 0 ∷ []) ∷ atom 1 (Var 0 ∷ []) ∷ []) (atom 2 (Var 0 ∷ []) ∷ []) ∷ []

-- The tuple of the relation with the value 1.
abbrev pub one_in : ℕ → Fact
one_in r = fact r (num 1 ∷ [])

abbrev pub all_three : List Fact
all_three = one_in 0 ∷ one_in 1 ∷ one_in 2 ∷ []

-- ---- relations City 0, Country 1, Capital 2

abbrev pub us : Datum
us = Text (codes "US")

abbrev pub washington : Datum
washington = Text (codes "DC")

abbrev pub city : Fact
city = fact 0 (Text (codes "Ithaca") ∷ us ∷ [])

abbrev pub country : Datum → Fact
country d = fact 1 (us ∷ d ∷ [])

abbrev pub capital : Datum → Fact
capital d = fact 2 (d ∷ us ∷ [])

-- City(x, c) -> Country(c, z)
abbrev pub countries : List Rule
countries = rule 2 1 (atom 0 (Var 0 ∷ Var 1 ∷ []) ∷ []) (atom 1 (Var 1 ∷ Var 2 ∷ []) ∷ []) ∷ []

-- City(x, c) -> Country(c, z), Capital(z, c)
abbrev pub capitals : List Rule
capitals = rule 2 1 (atom 0 (Var 0 ∷ Var 1 ∷ []) ∷ []) (atom 1 (Var 1 ∷ Var 2 ∷ []) ∷ atom 2 (Var 2 ∷ Var 1 ∷ []) ∷ []) ∷ []

-- ---- others

-- Relations P 0, R 1: P(x, y) -> R(x, y)
abbrev pub pairs : List Rule
pairs = rule 2 0 (atom 0 (Var 0 ∷ Var 1 ∷ []) ∷ []) (atom 1 (Var 0 ∷ Var 1 ∷ []) ∷ []) ∷ []

-- Relations E 0, C 1: E(x, y), E(y, x) -> C(x)
abbrev pub mirrored : List Rule
mirrored = rule 2 0 (atom 0 (Var 0 ∷ Var 1 ∷ []) ∷ atom 0 (Var 1 ∷ Var 0 ∷ []) ∷ []) (atom 1 (Var 0 ∷ []) ∷ []) ∷ []

-- Relations P 0, Q 1: P(x) -> Q(x, y); Q(x, y) -> P(y)
abbrev pub long_cycle : List Rule
long_cycle =
    rule 1 1 (atom 0 (Var 0 ∷ []) ∷ []) (atom 1 (Var 0 ∷ Var 1 ∷ []) ∷ [])
    ∷ rule 2 0 (atom 1 (Var 0 ∷ Var 1 ∷ []) ∷ []) (atom 0 (Var 1 ∷ []) ∷ [])
    ∷ []

-- A tuple of relation A 0 of two columns, with 1 in the second.
abbrev pub beside_one : Datum → Fact
beside_one d = fact 0 (d ∷ num 1 ∷ [])

abbrev pub two_beside : List Fact
two_beside = beside_one (num 2) ∷ beside_one (null 0 1) ∷ []

-- ---- the rows

-- Insertions: their repairs, the nulls that they draw, their questions, and the effects of answers.
pub record Insertions : Type 0 where
  pub one_repair : one_update copying [] (Adds (one_in 0)) [] ≡ all_end (ends 1 Done 4 0 ∷ []) (one_in 0 ∷ one_in 1 ∷ [])
  pub fresh_null : one_update countries [] (Adds city) [] ≡ all_end (ends 1 Done 4 1 ∷ []) (city ∷ country (null 1 1) ∷ [])
  pub stuck_missing :
      one_update capitals (country washington ∷ []) (Adds city) []
      ≡ stop_at [] 1 (Positive (repair 0 (city.values ++ null 1 1 ∷ []) 0) (country (null 1 1)) (country washington ∷ [])) Missing (country washington ∷ [])
  pub unify_answer :
      one_update capitals (country washington ∷ []) (Adds city) (Unify (country washington) ∷ [])
      ≡ all_end (ends 1 Done 6 1 ∷ []) (city ∷ country washington ∷ capital washington ∷ [])
  pub expand_answer :
      one_update capitals (country washington ∷ []) (Adds city) (Expand ∷ [])
      ≡ all_end (ends 1 Done 6 1 ∷ []) (city ∷ country washington ∷ country (null 1 1) ∷ capital (null 1 1) ∷ [])
  pub unifier_cycle :
      one_update pairs (fact 1 (null 0 2 ∷ null 0 1 ∷ []) ∷ []) (Adds (fact 0 (null 0 1 ∷ null 0 2 ∷ []))) (Unify (fact 1 (null 0 2 ∷ null 0 1 ∷ [])) ∷ [])
      ≡ all_end (ends 1 Done 5 0 ∷ []) (fact 0 (null 0 1 ∷ null 0 1 ∷ []) ∷ fact 1 (null 0 1 ∷ null 0 1 ∷ []) ∷ [])
  pub already_there : one_update [] (one_in 0 ∷ []) (Adds (one_in 0)) [] ≡ all_end (ends 1 Done 2 0 ∷ []) (one_in 0 ∷ [])
  pub null_nowhere : one_update [] [] (Adds (fact 0 (null 0 9 ∷ []))) [] ≡ all_end (ends 1 (Refused (named_null 0 9)) 1 0 ∷ []) []

-- Deletions: their repairs, their questions, and the effects of answers.
pub record Deletions : Type 0 where
  pub both_deleted : one_update meeting all_three (Removes (one_in 2)) (Drop (one_in 0 ∷ one_in 1 ∷ []) ∷ []) ≡ all_end (ends 1 Done 4 0 ∷ []) []
  pub one_deleted : one_update meeting all_three (Removes (one_in 2)) (Drop (one_in 0 ∷ []) ∷ []) ≡ all_end (ends 1 Done 4 0 ∷ []) (one_in 1 ∷ [])
  pub other_deleted :
      one_update meeting all_three (Removes (one_in 2)) (Drop (one_in 2 ∷ []) ∷ [])
      ≡ stop_at [] 1 (Negative 0 (one_in 0 ∷ one_in 1 ∷ [])) Misfit all_three
  pub deleted_unasked :
      one_update mirrored (fact 0 (num 1 ∷ num 1 ∷ []) ∷ one_in 1 ∷ []) (Removes (one_in 1)) [] ≡ all_end (ends 1 Done 3 0 ∷ []) []

-- Updates that run out of their budget of steps, or not.
pub record Budgets : Type 0 where
  pub four_steps : serial_result long_cycle 4 [] (request (Adds (one_in 0)) [] ∷ []) ≡ all_end (ends 1 Spent 4 1 ∷ []) []
  pub default_budget :
      one_update long_cycle [] (Adds (one_in 0)) []
      ≡ stop_at [] 1 (Positive (repair 1 (num 1 ∷ null 1 1 ∷ []) 0) (fact 0 (null 1 1 ∷ [])) (one_in 0 ∷ [])) Missing []
  pub unified :
      one_update long_cycle [] (Adds (one_in 0)) (Unify (one_in 0) ∷ []) ≡ all_end (ends 1 Done 7 1 ∷ []) (one_in 0 ∷ fact 1 (num 1 ∷ num 1 ∷ []) ∷ [])

-- Replacements of a null in the tuples that hold it.
pub record Replacements : Type 0 where
  pub replace_merges : one_update [] two_beside (Replaces (named_null 0 1) (num 2)) [] ≡ all_end (ends 1 Done 2 0 ∷ []) (beside_one (num 2) ∷ [])
  pub refused_null : one_update [] two_beside (Replaces (named_null 0 9) (num 2)) [] ≡ all_end (ends 1 (Refused (named_null 0 9)) 1 0 ∷ []) two_beside
