-- Histories with a conflict, entry by entry: an update that is restarted or held, a null that is gone with its attempt, and a
-- mapping that is added late.
use Rattle.std.specs.Prelude.{◌≡◌, true, false, List, [], ◌∷◌, ◌++◌, Some, None}
use Rattle.def_machine.specs.Machine.{Done}
use Rattle.def_machine.specs.Updates.{Precise, Coarse}
use Rattle.def_machine.specs.Standings.{Ready, Held, Ended}
use Rattle.def_machine.specs.Cascade.{Conflict, Depends}
use Rattle.def_machine.specs.Effects.{Event, Admits, Steps, Entry, Admitted}
use Rattle.def_chase.specs.Values.{Fact}
use Rattle.def_chase.specs.Repository.{Insert, Delete}
use Rattle.def_chase.specs.Mappings.{force}
use Rattle.def_chase.specs.Queries.{Yes, No, Image, Nothing}
use Rattle.def_steps.specs.Chase.{caused_chase}
use Rattle.def_steps.specs.RowWords.{num, fact}
use Rattle.def_steps.specs.Rows.{copying, one_in}
use Rattle.def_steps.specs.SessionRows.{insert_delete, taking, taken_null, added_copying, two_in, added_mapping}
use Rattle.def_history.specs.HistoryWords.{null_by, a_step, left_by}

-- ---- a conflict: A(x) -> B(x); update 1 inserts A(1), update 2 deletes it

-- Update 2 runs to its end before update 1 makes a step: it finds no A(1), and has nothing to delete.
abbrev pub conflict_events : List (Event (caused_chase copying 100))
conflict_events = Admits ∷ Admits ∷ Steps 2 ∷ Steps 2 ∷ Steps 1 ∷ []

-- The write of update 1 changes the answer to the first read of update 2.
abbrev pub conflict_entries : List (Entry (caused_chase copying 100))
conflict_entries =
    Admitted 1
    ∷ Admitted 2
    ∷ a_step copying 2 0 Ready [] [] 0
    ∷ a_step copying 2 0 (Ended Done) [] [] 0
    ∷ a_step copying 1 0 Ready (Insert (one_in 0) ∷ []) (Conflict 2 1 1 No Yes ∷ []) 0
    ∷ []

-- Update 1 runs to its end, then update 2.
abbrev pub conflict_rest : List (Event (caused_chase copying 100))
conflict_rest = Steps 1 ∷ Steps 1 ∷ Steps 1 ∷ Steps 2 ∷ Steps 2 ∷ []

-- At its second attempt update 2 deletes A(1).
abbrev pub conflict_ends : List (Entry (caused_chase copying 100))
conflict_ends =
    a_step copying 1 0 Ready [] [] 0
    ∷ a_step copying 1 0 Ready (Insert (one_in 1) ∷ []) [] 0
    ∷ a_step copying 1 0 (Ended Done) [] [] 1
    ∷ a_step copying 2 1 Ready (Delete (one_in 0) ∷ []) [] 1
    ∷ a_step copying 2 1 (Ended Done) [] [] 2
    ∷ []

-- The results of these histories, with precise and with coarse dependences.
pub record Conflicts : Type 0 where
  pub conflict : left_by copying 3 Precise [] insert_delete conflict_events ≡ Some record { entries = conflict_entries; standings = Ready ∷ Ready ∷ []; repository = []; quiet = false }
  pub drained :
      left_by copying 3 Precise [] insert_delete (conflict_events ++ conflict_rest)
      ≡ Some record { entries = conflict_entries ++ conflict_ends; standings = Ended Done ∷ Ended Done ∷ []; repository = one_in 1 ∷ []; quiet = true }
  pub coarse :
      left_by copying 3 Coarse [] insert_delete (conflict_events ++ conflict_rest)
      ≡ Some record { entries = conflict_entries ++ conflict_ends; standings = Ended Done ∷ Ended Done ∷ []; repository = one_in 1 ∷ []; quiet = true }
  -- Without retries update 2 is held until update 1 is committed.
  pub held : left_by copying 0 Precise [] insert_delete conflict_events ≡ Some record { entries = conflict_entries; standings = Ready ∷ Held 1 ∷ []; repository = []; quiet = false }
  pub no_step_while_held : left_by copying 0 Precise [] insert_delete (conflict_events ++ Steps 2 ∷ []) ≡ None
  pub free_again :
      left_by copying 0 Precise [] insert_delete (conflict_events ++ Steps 1 ∷ Steps 1 ∷ Steps 1 ∷ [])
      ≡ Some record {
        entries = conflict_entries ++ a_step copying 1 0 Ready [] [] 0 ∷ a_step copying 1 0 Ready (Insert (one_in 1) ∷ []) [] 0 ∷ a_step copying 1 0 (Ended Done) [] [] 1 ∷ [];
        standings = Ended Done ∷ Ready ∷ [];
        repository = one_in 0 ∷ one_in 1 ∷ [];
        quiet = false;
      }
  pub held_drained :
      left_by copying 0 Precise [] insert_delete (conflict_events ++ conflict_rest)
      ≡ Some record { entries = conflict_entries ++ conflict_ends; standings = Ended Done ∷ Ended Done ∷ []; repository = one_in 1 ∷ []; quiet = true }

-- ---- a null that a later update has taken: A(x) -> B(x, z); A(x), D(x) -> E(x); update 1 inserts D(1), update 2 A(1), update 3
-- C(?2.1)

-- Updates 2 and 3 run to their ends before update 1 makes a step.
abbrev pub taken_events : List (Event (caused_chase taking 100))
taken_events = Admits ∷ Admits ∷ Admits ∷ Steps 2 ∷ Steps 2 ∷ Steps 2 ∷ Steps 2 ∷ Steps 3 ∷ Steps 3 ∷ Steps 1 ∷ []

-- Update 3 writes the null of attempt 0 of update 2, and so depends on it.
abbrev pub taken_entries : List (Entry (caused_chase taking 100))
taken_entries =
    Admitted 1
    ∷ Admitted 2
    ∷ Admitted 3
    ∷ a_step taking 2 0 Ready (Insert (one_in 0) ∷ []) [] 0
    ∷ a_step taking 2 0 Ready [] [] 0
    ∷ a_step taking 2 0 Ready (Insert (fact 1 (num 1 ∷ null_by 2 0 1 ∷ [])) ∷ []) [] 0
    ∷ a_step taking 2 0 (Ended Done) [] [] 0
    ∷ a_step taking 3 0 Ready (Insert (fact 2 (null_by 2 0 1 ∷ [])) ∷ []) [] 0
    ∷ a_step taking 3 0 (Ended Done) [] [] 0
    ∷ a_step taking 1 0 Ready (Insert (one_in 3) ∷ []) (Conflict 2 6 1 Nothing (Image (one_in 0 ∷ one_in 3 ∷ [])) ∷ Depends 3 1 2 ∷ []) 0
    ∷ []

-- All three run to their ends, in number order.
abbrev pub taken_rest : List (Event (caused_chase taking 100))
taken_rest = Steps 1 ∷ Steps 2 ∷ Steps 2 ∷ Steps 2 ∷ Steps 2 ∷ Steps 2 ∷ Steps 2 ∷ Steps 3 ∷ Steps 3 ∷ []

-- At the second attempts the null is drawn by attempt 1.
abbrev pub taken_ends : List (Entry (caused_chase taking 100))
taken_ends =
    a_step taking 1 0 (Ended Done) [] [] 1
    ∷ a_step taking 2 1 Ready (Insert (one_in 0) ∷ []) [] 1
    ∷ a_step taking 2 1 Ready [] [] 1
    ∷ a_step taking 2 1 Ready (Insert (fact 1 (num 1 ∷ null_by 2 1 1 ∷ [])) ∷ []) [] 1
    ∷ a_step taking 2 1 Ready [] [] 1
    ∷ a_step taking 2 1 Ready (Insert (one_in 4) ∷ []) [] 1
    ∷ a_step taking 2 1 (Ended Done) [] [] 2
    ∷ a_step taking 3 1 Ready (Insert (fact 2 (null_by 2 1 1 ∷ [])) ∷ []) [] 2
    ∷ a_step taking 3 1 (Ended Done) [] [] 3
    ∷ []

-- The repository that is left then.
abbrev pub taken_repository : List Fact
taken_repository = one_in 0 ∷ fact 1 (num 1 ∷ null_by 2 1 1 ∷ []) ∷ fact 2 (null_by 2 1 1 ∷ []) ∷ one_in 3 ∷ one_in 4 ∷ []

-- The results of these histories.
pub record TakenNulls : Type 0 where
  pub taken : left_by taking 3 Precise [] taken_null taken_events ≡ Some record { entries = taken_entries; standings = Ready ∷ Ready ∷ Ready ∷ []; repository = []; quiet = false }
  pub drained :
      left_by taking 3 Precise [] taken_null (taken_events ++ taken_rest)
      ≡ Some record { entries = taken_entries ++ taken_ends; standings = Ended Done ∷ Ended Done ∷ Ended Done ∷ []; repository = taken_repository; quiet = true }

-- ---- a mapping added late: update 1 adds A(x) -> B(x) over the base A(1), update 2 inserts A(2)

-- Update 2 runs to its end before update 1 makes a step.
abbrev pub added_events : List (Event (caused_chase added_copying 100))
added_events = Admits ∷ Admits ∷ Steps 2 ∷ Steps 2 ∷ Steps 1 ∷ []

-- Update 2 has read that the mapping is not in force.
abbrev pub added_entries : List (Entry (caused_chase added_copying 100))
added_entries =
    Admitted 1
    ∷ Admitted 2
    ∷ a_step added_copying 2 0 Ready (Insert two_in ∷ []) [] 0
    ∷ a_step added_copying 2 0 (Ended Done) [] [] 0
    ∷ a_step added_copying 1 0 Ready (Insert (force 0) ∷ []) (Conflict 2 2 1 No Yes ∷ []) 0
    ∷ []

-- Both run to their ends, in number order.
abbrev pub added_rest : List (Event (caused_chase added_copying 100))
added_rest = Steps 1 ∷ Steps 1 ∷ Steps 1 ∷ Steps 2 ∷ Steps 2 ∷ Steps 2 ∷ Steps 2 ∷ []

-- The mapping is repaired in the base, and then for the tuple that update 2 inserts.
abbrev pub added_ends : List (Entry (caused_chase added_copying 100))
added_ends =
    a_step added_copying 1 0 Ready [] [] 0
    ∷ a_step added_copying 1 0 Ready (Insert (one_in 1) ∷ []) [] 0
    ∷ a_step added_copying 1 0 (Ended Done) [] [] 1
    ∷ a_step added_copying 2 1 Ready (Insert two_in ∷ []) [] 1
    ∷ a_step added_copying 2 1 Ready [] [] 1
    ∷ a_step added_copying 2 1 Ready (Insert (fact 1 (num 2 ∷ [])) ∷ []) [] 1
    ∷ a_step added_copying 2 1 (Ended Done) [] [] 2
    ∷ []

-- The results of these histories.
pub record AddedMappings : Type 0 where
  pub added : left_by added_copying 3 Precise (one_in 0 ∷ []) added_mapping added_events ≡ Some record { entries = added_entries; standings = Ready ∷ Ready ∷ []; repository = one_in 0 ∷ []; quiet = false }
  pub drained :
      left_by added_copying 3 Precise (one_in 0 ∷ []) added_mapping (added_events ++ added_rest)
      ≡ Some record {
        entries = added_entries ++ added_ends;
        standings = Ended Done ∷ Ended Done ∷ [];
        repository = one_in 0 ∷ two_in ∷ one_in 1 ∷ fact 1 (num 2 ∷ []) ∷ force 0 ∷ [];
        quiet = true;
      }
