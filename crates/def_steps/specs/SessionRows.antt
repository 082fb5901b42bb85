-- Worked rows: the results of the serial machine on sessions of several updates, some of which add mappings.
use Rattle.std.specs.Prelude.{◌≡◌, List, [], ◌∷◌}
use Rattle.def_chase.specs.Values.{Fact}
use Rattle.def_chase.specs.Mappings.{Var, Rule}
use Rattle.def_chase.specs.Updates.{Adds, Removes, Enacts}
use Rattle.def_steps.specs.Attempts.{Done, Spent}
use Rattle.def_steps.specs.Serial.{Request, serial_result}
use Rattle.def_steps.specs.RowWords.{num, null, fact, atom, rule, added_rule, request, ends, all_end}
use Rattle.def_steps.specs.Rows.{copying, one_in}

-- ---- an insertion, then its deletion

abbrev pub insert_delete : List Request
insert_delete = request (Adds (one_in 0)) [] ∷ request (Removes (one_in 0)) [] ∷ []

-- ---- a null that a later update names: relations A 0, B 1, C 2, D 3, E 4

-- A(x) -> B(x, z); A(x), D(x) -> E(x)
abbrev pub taking : List Rule
taking =
    rule 1 1 (atom 0 (Var 0 ∷ []) ∷ []) (atom 1 (Var 0 ∷ Var 1 ∷ []) ∷ [])
    ∷ rule 1 0 (atom 0 (Var 0 ∷ []) ∷ atom 3 (Var 0 ∷ []) ∷ []) (atom 4 (Var 0 ∷ []) ∷ [])
    ∷ []

abbrev pub taken_null : List Request
taken_null = request (Adds (one_in 3)) [] ∷ request (Adds (one_in 0)) [] ∷ request (Adds (fact 2 (null 2 1 ∷ []))) [] ∷ []

-- ---- a mapping added by an update: relations A 0, B 1

-- A(x) -> B(x), added by update 1
abbrev pub added_copying : List Rule
added_copying = added_rule 1 1 0 (atom 0 (Var 0 ∷ []) ∷ []) (atom 1 (Var 0 ∷ []) ∷ []) ∷ []

abbrev pub two_in : Fact
two_in = fact 0 (num 2 ∷ [])

abbrev pub added_mapping : List Request
added_mapping = request (Enacts 0) [] ∷ request (Adds two_in) [] ∷ []

-- ---- the rows

pub record Sessions : Type 0 where
  pub insert_then_delete : serial_result copying 100 [] insert_delete ≡ all_end (ends 1 Done 4 0 ∷ ends 2 Done 2 0 ∷ []) (one_in 1 ∷ [])
  pub null_taken :
      serial_result taking 100 [] taken_null
      ≡ all_end (ends 1 Done 2 0 ∷ ends 2 Done 6 1 ∷ ends 3 Done 2 0 ∷ [])
      (one_in 0 ∷ fact 1 (num 1 ∷ null 2 1 ∷ []) ∷ fact 2 (null 2 1 ∷ []) ∷ one_in 3 ∷ one_in 4 ∷ [])
  -- The base is repaired when the mapping is added, and later insertions too.
  pub mapping_added :
      serial_result added_copying 100 (one_in 0 ∷ []) added_mapping
      ≡ all_end (ends 1 Done 4 0 ∷ ends 2 Done 4 0 ∷ []) (one_in 0 ∷ two_in ∷ one_in 1 ∷ fact 1 (num 2 ∷ []) ∷ [])
  -- The update that adds the mapping is spent, so it is never in force.
  pub mapping_spent :
      serial_result added_copying 2 (one_in 0 ∷ []) added_mapping
      ≡ all_end (ends 1 Spent 2 0 ∷ ends 2 Done 2 0 ∷ []) (one_in 0 ∷ two_in ∷ [])
