-- Histories of the small machine, entry by entry.
use Rattle.std.specs.Prelude.{◌≡◌, ℕ, Bool, true, false, List, [], ◌∷◌, ◌++◌, Option, Some, None, option_map}
use Rattle.def_machine.specs.Machine.{Done, Spent}
use Rattle.def_machine.specs.Updates.{Submission, Session, Deps, Precise, Coarse}
use Rattle.def_machine.specs.Standings.{Standing, Ready, Paused, Ended, Missing}
use Rattle.def_machine.specs.Cascade.{Cause, Conflict, Depends}
use Rattle.def_machine.specs.Effects.{Event, Admits, Steps, Delivers, Withdraws, Entry, Admitted, Stepped, Delivered, Withdrew}
use Rattle.def_machine.specs.Histories.{Log, empty_log, after}
use Rattle.def_machine.specs.Small.{small}

-- An update that looks for one item and writes another, and may ask, with the answers recorded for it.
abbrev pub looks : (B : ℕ) → ℕ → ℕ → Bool → List ℕ → Submission (small B)
looks B x y asks answers = record { operation = record { looks_for = x; writes = y; asks = asks }; answers = answers }

-- A session of these items and these updates.
abbrev pub session_of : (B : ℕ) → List ℕ → List (Submission (small B)) → Session (small B)
session_of B base us = record { base = base; submissions = us }

-- The entries that the events leave, with K retries.
abbrev pub entries_after : (B K : ℕ) → Deps → Session (small B) → List (Event (small B))
    → Option (List (Entry (small B)))
entries_after B K deps S es = option_map (λ (l : Log (small B)). l.entries) (after (small B) (record { retries = K; deps = deps }) S (empty_log (small B)) es)

-- The entry of a step: update, attempt, standing, writes, causes, committed.
abbrev pub a_step : (B : ℕ) → ℕ → ℕ → Standing → List ℕ → List (Cause (small B)) → ℕ → Entry (small B)
a_step B i a s ws cs c = Stepped (record { update = i; attempt = a; standing = s; writes = ws; causes = cs; committed = c })

-- ---- a conflict: update 2 is done when update 1 writes what it had looked for

-- Update 1 writes 1 and asks; update 2 writes 2 unless it finds 1.
abbrev pub two_updates : Session (small 2)
two_updates = session_of 2 [] (looks 2 9 1 true (6 ∷ []) ∷ looks 2 1 2 false [] ∷ [])

-- Update 2 goes first.
abbrev pub conflict_events : List (Event (small 2))
conflict_events = Admits ∷ Admits ∷ Steps 2 ∷ Steps 1 ∷ []

-- The write of update 1 changes what update 2 read: from missing to found.
abbrev pub conflict_entries : List (Entry (small 2))
conflict_entries =
    Admitted 1 ∷ Admitted 2 ∷ a_step 2 2 0 (Ended Done) (2 ∷ []) [] 0
    ∷ a_step 2 1 0 (Paused Missing) (1 ∷ []) (Conflict 2 1 1 false true ∷ []) 0 ∷ []

-- Without retries update 2 is then held: it may not step, until update 1 is committed with the answer delivered to it.
abbrev pub held_events : List (Event (small 2))
held_events = conflict_events ++ Delivers 1 ∷ Steps 1 ∷ Steps 2 ∷ []

-- At its second attempt update 2 finds 1, and writes nothing.
abbrev pub held_entries : List (Entry (small 2))
held_entries = conflict_entries ++ Delivered 1 Ready ∷ a_step 2 1 0 (Ended Done) (6 ∷ []) [] 1 ∷ a_step 2 2 1 (Ended Done) [] [] 2 ∷ []

-- ---- a cascade of two levels: update 2 wrote 2 and 5, of which the base has 5

-- Updates 2 and 3 ask, and have answers.
abbrev pub five_updates : Session (small 2)
five_updates = session_of 2 (5 ∷ []) (looks 2 9 1 false [] ∷ looks 2 1 2 true (5 ∷ []) ∷ looks 2 2 3 true (7 ∷ []) ∷ looks 2 5 4 false [] ∷ looks 2 7 8 false [] ∷ [])

-- All updates except update 1 run to their ends.
abbrev pub before_conflict : List (Event (small 2))
before_conflict =
    Admits ∷ Admits ∷ Admits ∷ Admits ∷ Admits ∷ Steps 2 ∷ Delivers 2 ∷ Steps 2 ∷ Steps 3 ∷ Delivers 3 ∷ Steps 3 ∷ Steps 4 ∷ Steps 5 ∷ []

-- Nothing is committed, since update 1 has made no step.
abbrev pub entries_before : List (Entry (small 2))
entries_before =
    Admitted 1 ∷ Admitted 2 ∷ Admitted 3 ∷ Admitted 4 ∷ Admitted 5
    ∷ a_step 2 2 0 (Paused Missing) (2 ∷ []) [] 0 ∷ Delivered 2 Ready ∷ a_step 2 2 0 (Ended Done) (5 ∷ []) [] 0
    ∷ a_step 2 3 0 (Paused Missing) [] [] 0 ∷ Delivered 3 Ready ∷ a_step 2 3 0 (Ended Done) (7 ∷ []) [] 0
    ∷ a_step 2 4 0 (Ended Done) [] [] 0 ∷ a_step 2 5 0 (Ended Done) [] [] 0 ∷ []

-- Update 3 found 2, which update 2 wrote, and update 5 found 7, which update 3 wrote. Update 4 found 5, which is also there
-- without update 2: its read depends by the relation that it mentions, but not by its value.
abbrev pub precise_causes : List (Cause (small 2))
precise_causes = Conflict 2 1 1 false true ∷ Depends 3 1 2 ∷ Depends 5 1 3 ∷ []

-- With coarse dependences update 4 is restarted too.
abbrev pub coarse_causes : List (Cause (small 2))
coarse_causes = Conflict 2 1 1 false true ∷ Depends 3 1 2 ∷ Depends 4 1 2 ∷ Depends 5 1 3 ∷ []

-- ---- a withdrawal, and an attempt out of its one step

-- Update 2 finds what update 1 wrote; then update 1 is withdrawn.
abbrev pub withdrawal_events : List (Event (small 2))
withdrawal_events = Admits ∷ Admits ∷ Steps 1 ∷ Steps 2 ∷ Withdraws 1 ∷ []

-- The withdrawal commits update 1, and restarts update 2.
abbrev pub withdrawal_entries : List (Entry (small 2))
withdrawal_entries = Admitted 1 ∷ Admitted 2 ∷ a_step 2 1 0 (Paused Missing) (1 ∷ []) [] 0 ∷ a_step 2 2 0 (Ended Done) [] [] 0 ∷ Withdrew 1 (Depends 2 1 1 ∷ []) 1 ∷ []

-- An update that would need two steps.
abbrev pub one_step : Session (small 1)
one_step = session_of 1 [] (looks 1 9 1 true [] ∷ [])

-- The histories compute to these entries.
pub record SmallRows : Type 0 where
  pub conflict : entries_after 2 0 Precise two_updates conflict_events ≡ Some conflict_entries
  pub held : entries_after 2 0 Precise two_updates held_events ≡ Some held_entries
  pub not_while_held : entries_after 2 0 Precise two_updates (conflict_events ++ Steps 2 ∷ []) ≡ None
  pub retried : entries_after 2 1 Precise two_updates (conflict_events ++ Steps 2 ∷ []) ≡ Some (conflict_entries ++ a_step 2 2 1 (Ended Done) [] [] 0 ∷ [])
  pub precise : entries_after 2 3 Precise five_updates (before_conflict ++ Steps 1 ∷ []) ≡ Some (entries_before ++ a_step 2 1 0 (Ended Done) (1 ∷ []) precise_causes 1 ∷ [])
  pub coarse : entries_after 2 3 Coarse five_updates (before_conflict ++ Steps 1 ∷ []) ≡ Some (entries_before ++ a_step 2 1 0 (Ended Done) (1 ∷ []) coarse_causes 1 ∷ [])
  pub withdrawal : entries_after 2 3 Coarse two_updates withdrawal_events ≡ Some withdrawal_entries
  pub spent : entries_after 1 3 Precise one_step (Admits ∷ Steps 1 ∷ []) ≡ Some (Admitted 1 ∷ a_step 1 1 0 (Ended Spent) [] [] 1 ∷ [])
