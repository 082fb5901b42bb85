-- What the contracts say of a queue, for the machine of any mappings and any budget.
use Rattle.std.specs.Prelude.{◌≡◌, ◌==◌, ◌+◌, ◌≤◌, ℕ, zero, suc, Bool, not, ◌&&◌, List, [], ◌∷◌, drop, Option, None, Some, if◌then◌else◌}
use Rattle.def_machine.specs.Cascade.{has_number}
use Rattle.def_machine.specs.Machine.{Machine}
use Rattle.def_machine.specs.Standings.{standing, is_ready, is_deliverable, lowest_that, lowest_ready, lowest_deliverable, is_quiet}
use Rattle.def_machine.specs.Updates.{Settings, Update, committed}
use Rattle.def_chase.specs.Mappings.{Rule}
use Rattle.def_steps.specs.Chase.{caused_chase}
use Rattle.core_queue.specs.Queues.{update_of, updates_of}
use Rattle.core_queue.specs.Updates.{CannotStep}
use Rattle.core_queue.specs.declared.updates.QueuedUpdate.{QueuedUpdate}

-- The number of committed updates is c.
abbrev pub HasCommitted : List QueuedUpdate → ℕ → Type 0
HasCommitted rs c = (ms : List Rule) (B : ℕ) → c ≡ committed (caused_chase ms B) (updates_of ms B rs)

-- At least c updates are committed.
abbrev pub CommitsAtLeast : List QueuedUpdate → ℕ → Type 0
CommitsAtLeast rs c = (ms : List Rule) (B : ℕ) → c ≤ committed (caused_chase ms B) (updates_of ms B rs)

-- None of these updates has logged a read.
abbrev pub AreUnread : (M : Machine) → List (Update M) → Type 0
AreUnread M [] = Unit {0}
AreUnread M (u ∷ us) = (u.log ≡ []) × AreUnread M us

-- No update after the first n has logged a read.
abbrev pub ReadsAtMost : List QueuedUpdate → ℕ → Type 0
ReadsAtMost rs n = (ms : List Rule) (B : ℕ) → AreUnread (caused_chase ms B) (drop n (updates_of ms B rs))

-- There are n updates at least, and none of the first n is ready, whatever the settings and the number of committed updates.
abbrev pub AreUnready : (M : Machine) → ℕ → List (Update M) → Type 0
AreUnready M zero us = Unit {0}
AreUnready M (suc n) [] = ⊥
AreUnready M (suc n) (u ∷ us) = CannotStep M u × AreUnready M n us

-- The first n updates are unready.
abbrev pub UnreadyUpTo : List QueuedUpdate → ℕ → Type 0
UnreadyUpTo rs n = (ms : List Rule) (B : ℕ) → AreUnready (caused_chase ms B) n (updates_of ms B rs)

-- The number of committed updates is k, if c updates are committed and these come after them.
abbrev pub CommitsOn : ℕ → List QueuedUpdate → ℕ → Type 0
CommitsOn c rs k = (ms : List Rule) (B : ℕ) → k ≡ c + committed (caused_chase ms B) (updates_of ms B rs)

-- The least number of a ready update, if c updates are committed and the first of these has number n.
abbrev pub IsFirstReady : Settings → ℕ → ℕ → List QueuedUpdate → Option ℕ → Type 0
IsFirstReady s c n rs o =
    (ms : List Rule) (B : ℕ) → o ≡ lowest_that (λ i u. is_ready (standing (caused_chase ms B) s c i u)) n (updates_of ms B rs)

-- The least number of a deliverable update, if c updates are committed and the first of these has number n.
abbrev pub IsFirstDeliverable : Settings → ℕ → ℕ → List QueuedUpdate → Option ℕ → Type 0
IsFirstDeliverable s c n rs o =
    (ms : List Rule) (B : ℕ) → o ≡ lowest_that (λ i u. is_deliverable (caused_chase ms B) s c i u) n (updates_of ms B rs)

-- The number, if it is n.
abbrev pub only : ℕ → Option ℕ → Option ℕ
only n None = None
only n (Some k) = if k == n then Some k else None

-- The number of the first of these updates, if it is deliverable; c updates are committed before it.
abbrev pub IsNextOf : Settings → ℕ → List QueuedUpdate → Option ℕ → Type 0
IsNextOf s c rs o =
    (ms : List Rule) (B : ℕ) → o ≡ only (suc c) (lowest_that (λ i u. is_deliverable (caused_chase ms B) s c i u) (suc c) (updates_of ms B rs))

-- Whether the update is ready and its number n is none of these.
abbrev pub IsReadyBesides : List ℕ → Settings → ℕ → ℕ → QueuedUpdate → Bool → Type 0
IsReadyBesides ns s c n r b =
    (ms : List Rule) (B : ℕ) → b ≡ (is_ready (standing (caused_chase ms B) s c n (update_of ms B r)) && not (has_number ns n))

-- The least number of a ready update that is none of these, if c updates are committed and the first of the list has number n.
abbrev pub IsFirstBesides : List ℕ → Settings → ℕ → ℕ → List QueuedUpdate → Option ℕ → Type 0
IsFirstBesides ns s c n rs o =
    (ms : List Rule) (B : ℕ) → o ≡ lowest_that (λ i u. is_ready (standing (caused_chase ms B) s c i u) && not (has_number ns i)) n (updates_of ms B rs)

-- The least number of a ready update, if one is ready.
abbrev pub IsLowestReady : Settings → List QueuedUpdate → Option ℕ → Type 0
IsLowestReady s rs o = (ms : List Rule) (B : ℕ) → o ≡ lowest_ready (caused_chase ms B) s (updates_of ms B rs)

-- The least number of a deliverable update, if one is deliverable.
abbrev pub IsLowestDeliverable : Settings → List QueuedUpdate → Option ℕ → Type 0
IsLowestDeliverable s rs o = (ms : List Rule) (B : ℕ) → o ≡ lowest_deliverable (caused_chase ms B) s (updates_of ms B rs)

-- The least number of a deliverable update, if it is the one after the committed updates: nothing can be delivered to a lower
-- one.
abbrev pub IsNextDeliverable : Settings → List QueuedUpdate → Option ℕ → Type 0
IsNextDeliverable s rs o =
    (ms : List Rule) (B : ℕ) → o ≡ only (suc (committed (caused_chase ms B) (updates_of ms B rs))) (lowest_deliverable (caused_chase ms B) s (updates_of ms B rs))

-- The least number of a ready update that is none of these, if there is one.
abbrev pub IsLowestBesides : List ℕ → Settings → List QueuedUpdate → Option ℕ → Type 0
IsLowestBesides ns s rs o =
    (ms : List Rule) (B : ℕ) → o ≡ lowest_that (λ i u. is_ready (standing (caused_chase ms B) s (committed (caused_chase ms B) (updates_of ms B rs)) i u) && not (has_number ns i)) 1 (updates_of ms B rs)

-- Whether nothing is ready and nothing is deliverable.
abbrev pub IsQuiet : Settings → List QueuedUpdate → Bool → Type 0
IsQuiet s rs b = (ms : List Rule) (B : ℕ) → b ≡ is_quiet (caused_chase ms B) s (updates_of ms B rs)
