-- Histories with a cascade, entry by entry, with precise and with coarse dependences.
use Rattle.std.specs.Prelude.{◌≡◌, ℕ, true, false, List, [], ◌∷◌, ◌++◌, Some}
use Rattle.def_machine.specs.Machine.{Done}
use Rattle.def_machine.specs.Updates.{Precise, Coarse}
use Rattle.def_machine.specs.Standings.{Ready, Ended}
use Rattle.def_machine.specs.Cascade.{Cause, Conflict, Depends}
use Rattle.def_machine.specs.Effects.{Event, Admits, Steps, Entry, Admitted}
use Rattle.def_chase.specs.Repository.{Insert, Delete}
use Rattle.def_chase.specs.Mappings.{Var, Rule}
use Rattle.def_chase.specs.Queries.{Image, Nothing}
use Rattle.def_chase.specs.Updates.{Adds, Removes}
use Rattle.def_steps.specs.Chase.{caused_chase}
use Rattle.def_steps.specs.Serial.{Request}
use Rattle.def_steps.specs.RowWords.{num, fact, atom, rule, request}
use Rattle.def_steps.specs.Rows.{one_in}
use Rattle.def_history.specs.HistoryWords.{a_step, left_by}

-- ---- one level: relations A 0, B 1, C 2

-- A(x), C(x) -> B(x)
abbrev pub joining : List Rule
joining = rule 1 0 (atom 0 (Var 0 ∷ []) ∷ atom 2 (Var 0 ∷ []) ∷ []) (atom 1 (Var 0 ∷ []) ∷ []) ∷ []

-- Update 1 inserts A(1), update 2 inserts C(1), update 3 deletes C(1), update 4 deletes C(5).
abbrev pub four_updates : List Request
four_updates = request (Adds (one_in 0)) [] ∷ request (Adds (one_in 2)) [] ∷ request (Removes (one_in 2)) [] ∷ request (Removes (fact 2 (num 5 ∷ []))) [] ∷ []

-- Updates 2 to 4 run to their ends before update 1 makes a step.
abbrev pub before_conflict : List (Event (caused_chase joining 100))
before_conflict = Admits ∷ Admits ∷ Admits ∷ Admits ∷ Steps 2 ∷ Steps 2 ∷ Steps 3 ∷ Steps 3 ∷ Steps 4 ∷ Steps 4 ∷ []

-- Update 3 deletes what update 2 inserted, and update 4 finds nothing to delete.
abbrev pub entries_before : List (Entry (caused_chase joining 100))
entries_before =
    Admitted 1
    ∷ Admitted 2
    ∷ Admitted 3
    ∷ Admitted 4
    ∷ a_step joining 2 0 Ready (Insert (one_in 2) ∷ []) [] 0
    ∷ a_step joining 2 0 (Ended Done) [] [] 0
    ∷ a_step joining 3 0 Ready (Delete (one_in 2) ∷ []) [] 0
    ∷ a_step joining 3 0 (Ended Done) [] [] 0
    ∷ a_step joining 4 0 Ready [] [] 0
    ∷ a_step joining 4 0 (Ended Done) [] [] 0
    ∷ []

-- The insertion of A(1) causes a violation at update 2; update 3 has read the C(1) that update 2 wrote.
abbrev pub causes_of_one : List (Cause (caused_chase joining 100))
causes_of_one = Conflict 2 2 1 Nothing (Image (one_in 0 ∷ one_in 2 ∷ [])) ∷ Depends 3 1 2 ∷ []

-- Update 4 has looked for a tuple of C, which is not there with or without update 2: it depends only by the relation.
abbrev pub coarse_cause : List (Cause (caused_chase joining 100))
coarse_cause = Depends 4 1 2 ∷ []

-- Updates 1 to 3 run to their ends.
abbrev pub rest_of_three : List (Event (caused_chase joining 100))
rest_of_three = Steps 1 ∷ Steps 2 ∷ Steps 2 ∷ Steps 2 ∷ Steps 2 ∷ Steps 3 ∷ Steps 3 ∷ []

-- The repair of update 2 stays, and update 3 deletes its C(1) again.
abbrev pub first_ends : List (Entry (caused_chase joining 100))
first_ends =
    a_step joining 1 0 (Ended Done) [] [] 1
    ∷ a_step joining 2 1 Ready (Insert (one_in 2) ∷ []) [] 1
    ∷ a_step joining 2 1 Ready [] [] 1
    ∷ a_step joining 2 1 Ready (Insert (one_in 1) ∷ []) [] 1
    ∷ a_step joining 2 1 (Ended Done) [] [] 2
    ∷ a_step joining 3 1 Ready (Delete (one_in 2) ∷ []) [] 2
    ∷ []

-- The results of these histories; with coarse dependences update 4 runs once more.
pub record Cascades : Type 0 where
  pub precise :
      left_by joining 3 Precise [] four_updates (before_conflict ++ Steps 1 ∷ [])
      ≡ Some record { entries = entries_before ++ a_step joining 1 0 Ready (Insert (one_in 0) ∷ []) causes_of_one 0 ∷ []; standings = Ready ∷ Ready ∷ Ready ∷ Ended Done ∷ []; repository = []; quiet = false }
  pub coarse :
      left_by joining 3 Coarse [] four_updates (before_conflict ++ Steps 1 ∷ [])
      ≡ Some record { entries = entries_before ++ a_step joining 1 0 Ready (Insert (one_in 0) ∷ []) (causes_of_one ++ coarse_cause) 0 ∷ []; standings = Ready ∷ Ready ∷ Ready ∷ Ready ∷ []; repository = []; quiet = false }
  pub precise_drained :
      left_by joining 3 Precise [] four_updates (before_conflict ++ Steps 1 ∷ rest_of_three)
      ≡ Some record {
        entries = entries_before ++ a_step joining 1 0 Ready (Insert (one_in 0) ∷ []) causes_of_one 0 ∷ first_ends ++ a_step joining 3 1 (Ended Done) [] [] 4 ∷ [];
        standings = Ended Done ∷ Ended Done ∷ Ended Done ∷ Ended Done ∷ [];
        repository = one_in 0 ∷ one_in 1 ∷ [];
        quiet = true;
      }
  pub coarse_drained :
      left_by joining 3 Coarse [] four_updates (before_conflict ++ Steps 1 ∷ rest_of_three ++ Steps 4 ∷ Steps 4 ∷ [])
      ≡ Some record {
        entries =
            entries_before
            ++ a_step joining 1 0 Ready (Insert (one_in 0) ∷ []) (causes_of_one ++ coarse_cause) 0
            ∷ first_ends
            ++ a_step joining 3 1 (Ended Done) [] [] 3
            ∷ a_step joining 4 1 Ready [] [] 3
            ∷ a_step joining 4 1 (Ended Done) [] [] 4
            ∷ [];
        standings = Ended Done ∷ Ended Done ∷ Ended Done ∷ Ended Done ∷ [];
        repository = one_in 0 ∷ one_in 1 ∷ [];
        quiet = true;
      }

-- ---- two levels: relations A 0, B 1, C 2, E 3, G 4

-- A(x), C(x) -> B(x); C(x), G(x) -> E(x)
abbrev pub joining_twice : List Rule
joining_twice =
    rule 1 0 (atom 0 (Var 0 ∷ []) ∷ atom 2 (Var 0 ∷ []) ∷ []) (atom 1 (Var 0 ∷ []) ∷ [])
    ∷ rule 1 0 (atom 2 (Var 0 ∷ []) ∷ atom 4 (Var 0 ∷ []) ∷ []) (atom 3 (Var 0 ∷ []) ∷ [])
    ∷ []

-- Updates 1 to 4 insert A(1), C(1), G(1) and E(1).
abbrev pub four_insertions : List Request
four_insertions = request (Adds (one_in 0)) [] ∷ request (Adds (one_in 2)) [] ∷ request (Adds (one_in 4)) [] ∷ request (Adds (one_in 3)) [] ∷ []

-- Updates 2 to 4 run to their ends before update 1 makes a step.
abbrev pub two_level_events : List (Event (caused_chase joining_twice 100))
two_level_events =
    Admits ∷ Admits ∷ Admits ∷ Admits ∷ Steps 2 ∷ Steps 2 ∷ Steps 3 ∷ Steps 3 ∷ Steps 3 ∷ Steps 3 ∷ Steps 4 ∷ Steps 4 ∷ Steps 1 ∷ []

-- Update 3 repairs the violation that the C(1) of update 2 causes with its G(1), and update 4 finds the E(1) that this repair
-- wrote.
abbrev pub two_level_entries : List (Entry (caused_chase joining_twice 100))
two_level_entries =
    Admitted 1
    ∷ Admitted 2
    ∷ Admitted 3
    ∷ Admitted 4
    ∷ a_step joining_twice 2 0 Ready (Insert (one_in 2) ∷ []) [] 0
    ∷ a_step joining_twice 2 0 (Ended Done) [] [] 0
    ∷ a_step joining_twice 3 0 Ready (Insert (one_in 4) ∷ []) [] 0
    ∷ a_step joining_twice 3 0 Ready [] [] 0
    ∷ a_step joining_twice 3 0 Ready (Insert (one_in 3) ∷ []) [] 0
    ∷ a_step joining_twice 3 0 (Ended Done) [] [] 0
    ∷ a_step joining_twice 4 0 Ready [] [] 0
    ∷ a_step joining_twice 4 0 (Ended Done) [] [] 0
    ∷ []

-- So update 4 restarts with update 3, which restarts with update 2. `read` is the read of update 3 that depends.
abbrev pub two_level_causes : ℕ → List (Cause (caused_chase joining_twice 100))
two_level_causes read = Conflict 2 2 1 Nothing (Image (one_in 0 ∷ one_in 2 ∷ [])) ∷ Depends 3 read 2 ∷ Depends 4 1 3 ∷ []

-- The results of these histories.
pub record TwoLevels : Type 0 where
  pub precise :
      left_by joining_twice 3 Precise [] four_insertions two_level_events
      ≡ Some record { entries = two_level_entries ++ a_step joining_twice 1 0 Ready (Insert (one_in 0) ∷ []) (two_level_causes 3) 0 ∷ []; standings = Ready ∷ Ready ∷ Ready ∷ Ready ∷ []; repository = []; quiet = false }
  -- The second read of update 3 is about a mapping that mentions the relation of C(1), although its value is the same without
  -- C(1).
  pub coarse :
      left_by joining_twice 3 Coarse [] four_insertions two_level_events
      ≡ Some record { entries = two_level_entries ++ a_step joining_twice 1 0 Ready (Insert (one_in 0) ∷ []) (two_level_causes 2) 0 ∷ []; standings = Ready ∷ Ready ∷ Ready ∷ Ready ∷ []; repository = []; quiet = false }
