-- The causes that one walk upwards from an event finds in the history.
use Rattle.std.specs.Prelude.{◌≡◌, ◌≤◌, ℕ, suc, true, false, List, [], ◌∷◌, ◌++◌, length, Option}
use Rattle.core_conflict.specs.Concerns.{AgreeBut}
use Rattle.core_entries.specs.declared.causes.Cause.{Cause}
use Rattle.def_machine.specs.Runs.{AreRuns}
use Rattle.def_machine.specs.Settle.{settle}
use Rattle.def_machine.specs.Updates.{Update, trail}
use Rattle.def_chase.specs.Repository.{Change}
use Rattle.def_chase.specs.Values.{Fact}
use Rattle.core_queue.specs.Queues.{updates_of}
use Rattle.core_queue.specs.declared.updates.QueuedUpdate.{QueuedUpdate}
use Rattle.def_steps.specs.Chase.{caused_chase}
use Rattle.core_cascade.specs.Held.{AreVersions, laid, above}
use Rattle.core_cascade.specs.Meanings.{Above, found_for}

-- In any history whose update above the lower ones is the event's, which was u and is v: these are the conflicts with the
-- writes that came or went, and the dependences on what is restarted. The updates above ran over what lay below them before the
-- event. D is the base, and the versions are those after the writes.
abbrev pub AreCausesOfWrites : Above → List Change → List QueuedUpdate → List (Option Cause) → Type 0
AreCausesOfWrites a ws upper xs =
    (B : ℕ) (D : List Fact) (lower : List (Update (caused_chase a.rules B))) (u v : Update (caused_chase a.rules B)) → 1 ≤ B
    → a.update ≡ suc (length lower) → AreVersions a.rules B D (lower ++ v ∷ updates_of a.rules B upper) a.whole
    → AreRuns (caused_chase a.rules B) (above a.rules B D lower u) (suc a.update) (updates_of a.rules B upper)
    → AgreeBut a.sense (ws ∷ []) (above a.rules B D lower u) (above a.rules B D lower v)
    → found_for a.rules B upper xs
    ≡ settle (caused_chase a.rules B) a.deps true a.committed a.update (above a.rules B D lower v) (above a.rules B D lower v) [] (suc a.update) (updates_of a.rules B upper)

-- In any history whose update above the lower ones is the event's, and was u before it lost its trail: these are the
-- dependences on it and on what is restarted. The updates above ran over what lay below them. D is the base, and the versions
-- are those before the loss.
abbrev pub AreCausesOfLoss : Above → List Change → List QueuedUpdate → List (Option Cause) → Type 0
AreCausesOfLoss a ws upper xs =
    (B : ℕ) (D : List Fact) (lower : List (Update (caused_chase a.rules B))) (u : Update (caused_chase a.rules B)) → 1 ≤ B
    → a.update ≡ suc (length lower) → trail (caused_chase a.rules B) u ≡ ws → AreVersions a.rules B D (lower ++ u ∷ updates_of a.rules B upper) a.whole
    → AreRuns (caused_chase a.rules B) (above a.rules B D lower u) (suc a.update) (updates_of a.rules B upper)
    → found_for a.rules B upper xs
    ≡ settle (caused_chase a.rules B) a.deps false a.committed a.update (above a.rules B D lower u) (laid a.rules B D lower) (record { number = a.update; trail = trail (caused_chase a.rules B) u } ∷ []) (suc a.update) (updates_of a.rules B upper)
