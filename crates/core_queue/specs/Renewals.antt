-- Restarts: fresh attempts, made before anything is changed, and the queued updates that take them over.
use Rattle.std.specs.Prelude.{◌≡◌, ℕ, suc, ◌+◌, ◌<◌, ◌^◌, List, [], ◌∷◌, ◌++◌, map, take, drop, Option, Some, None, is_some, if◌then◌else◌}
use Rattle.core_entries.specs.declared.causes.Cause.{Cause}
use Rattle.def_machine.specs.Cascade as machine
use Rattle.def_machine.specs.Cascade.{begun_again}
use Rattle.def_machine.specs.Settle.{restart}
use Rattle.def_chase.specs.Mappings.{Rule}
use Rattle.chase_update.specs.Courses.{State, between}
use Rattle.def_steps.specs.Attempts.{begun}
use Rattle.def_steps.specs.Chase.{caused_chase}
use Rattle.core_queue.specs.Queues.{update_of, updates_of}
use Rattle.core_queue.specs.declared.updates.QueuedUpdate.{QueuedUpdate}

-- There is a number for one more attempt.
abbrev pub HasOneMore : QueuedUpdate → Type 0
HasOneMore r = r.program.attempt.attempt + 1 < 2 ^ 32

-- There is a number for one more attempt at each of them.
abbrev pub AllHaveOneMore : List QueuedUpdate → Type 0
AllHaveOneMore [] = Unit {0}
AllHaveOneMore (r ∷ rs) = HasOneMore r × AllHaveOneMore rs

-- The next attempt at the update, at its start.
abbrev pub IsFresh : QueuedUpdate → State → Type 0
IsFresh r s = s ≡ between (begun r.program.attempt.number (suc r.program.attempt.attempt) r.program.attempt.operation)

-- The attempt is the update's next one, if there is one.
abbrev pub IsFreshIf : QueuedUpdate → Option State → Type 0
IsFreshIf r None = Unit {0}
IsFreshIf r (Some s) = IsFresh r s

-- For each of the first queued updates its next attempt, or none; for later ones there is none.
abbrev pub AreFresh : List QueuedUpdate → List (Option State) → Type 0
AreFresh rs [] = Unit {0}
AreFresh [] (f ∷ fs) = ⊥
AreFresh (r ∷ rs) (f ∷ fs) = IsFreshIf r f × AreFresh rs fs

-- There is an attempt exactly if there is a cause.
abbrev pub AreThere : List (Option Cause) → List (Option State) → Type 0
AreThere cs fs = map is_some fs ≡ map is_some cs

-- The update begins its next attempt.
abbrev pub HasRestarted : QueuedUpdate → QueuedUpdate → Type 0
HasRestarted r r' = (ms : List Rule) (B : ℕ) → update_of ms B r' ≡ begun_again (caused_chase ms B) r.program.attempt.number (update_of ms B r)

-- From place k on, the updates for which there is a next attempt begin it.
abbrev pub HaveRestarted : ℕ → List (Option State) → List QueuedUpdate → List QueuedUpdate → Type 0
HaveRestarted k fs rs rs' =
    (ms : List Rule) (B : ℕ) (xs : List (Option (machine.Cause (caused_chase ms B)))) → map is_some xs ≡ map is_some fs
    → updates_of ms B rs' ≡ take k (updates_of ms B rs) ++ restart (caused_chase ms B) (suc k) xs (drop k (updates_of ms B rs))

-- The update begins its next attempt if there is one, and else stays as it is.
abbrev pub HasRestartedIf : Option State → QueuedUpdate → QueuedUpdate → Type 0
HasRestartedIf f r r' =
    (ms : List Rule) (B : ℕ) → update_of ms B r' ≡ (if is_some f then begun_again (caused_chase ms B) r.program.attempt.number (update_of ms B r) else update_of ms B r)
