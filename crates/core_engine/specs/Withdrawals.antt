-- What a withdrawal leaves, before and after it is put in place.
use Rattle.std.specs.Prelude.{◌≡◌, ◌≤◌, ℕ, suc, true, List, ◌∷◌, ◌++◌, map, take, drop, length, Option, Some, is_some, slice_get}
use Rattle.std.specs.Option.{option_map}
use Rattle.base_types.specs.Listed.{Listed}
use Rattle.core_cascade.specs.Held.{AreVersions, laid}
use Rattle.core_entries.specs.Meanings.{cause_of, entry_of}
use Rattle.core_entries.specs.declared.causes.Cause.{Cause as CauseOfProgram}
use Rattle.core_entries.specs.declared.entries.Entry.{Entry}
use Rattle.def_history.specs.PlainEntries.{PlainEntry, WasWithdrawn, cause_kept}
use Rattle.def_machine.specs.Cascade.{Cause, readers, restarted}
use Rattle.def_machine.specs.Effects.{Withdraws, causes_of_loss, may_withdraw, withdrawn_now}
use Rattle.def_machine.specs.Settle.{restart}
use Rattle.def_machine.specs.Updates.{Settings, Update, committed}
use Rattle.def_chase.specs.Mappings.{Rule}
use Rattle.def_chase.specs.Updates.{Operation}
use Rattle.def_chase.specs.Values.{Fact}
use Rattle.chase_update.specs.Courses.{State as ProgramState}
use Rattle.core_queue.specs.Queues.{update_of, updates_of}
use Rattle.core_queue.specs.declared.updates.QueuedUpdate.{QueuedUpdate}
use Rattle.def_steps.specs.Chase.{caused_chase}
use Rattle.def_steps.specs.Serial.{Request}
use Rattle.set_versions.specs.Standing.{Kept}
use Rattle.core_engine.specs.Follows.{Follows, ground_with}
use Rattle.core_engine.specs.Kept.{IsKept}
use Rattle.core_engine.specs.Steps.{IsFound, RanAbove}
use Rattle.core_engine.specs.declared.aftermaths.Aftermath.{Aftermath}

module _ (ms : List Rule) (B : ℕ) where
  -- What an event leaves with these versions: it makes w of update j above the lower ones, which stand over E, for these
  -- causes.
  pub record IsLeft (causes : List (Cause (caused_chase ms B))) (E : List Fact) (lower : List (Update (caused_chase ms B))) (w : Update (caused_chase ms B)) (j : ℕ) (upper : List (Update (caused_chase ms B))) (v : Kept) (left : Aftermath) : Type 0 where
    pub told : map (cause_kept ms B) (map cause_of left.causes.items) ≡ causes
    pub restarts : (xs : List (Option (Cause (caused_chase ms B)))) → map is_some xs ≡ map is_some left.fresh.items
        → restart (caused_chase ms B) (suc j) xs upper ≡ restarted (caused_chase ms B) (readers causes) (suc j) upper
    pub versions : AreVersions ms B E (lower ++ w ∷ restarted (caused_chase ms B) (readers causes) (suc j) upper) v

  -- What the withdrawal of update j leaves, if c updates are committed.
  abbrev pub IsLossLeft : Settings → ℕ → ℕ → List Fact → List (Update (caused_chase ms B)) → Update (caused_chase ms B) → List (Update (caused_chase ms B)) → Kept → Aftermath → Type 0
  IsLossLeft s c j E lower u upper v left = IsLeft (causes_of_loss (caused_chase ms B) s.deps c j (laid ms B E lower) u upper) E lower (withdrawn_now (caused_chase ms B) u) j upper v left

-- In any history of these mappings in which the update stands above the lower ones: these causes were found when it loses its
-- trail.
abbrev pub WereLost : List Rule → Settings → ℕ → Kept → QueuedUpdate → List QueuedUpdate → List (Option CauseOfProgram) → Type 0
WereLost ms s c v r upper found =
    (B : ℕ) (E : List Fact) (lower : List (Update (caused_chase ms B))) → 1 ≤ B → r.program.attempt.number ≡ suc (length lower)
    → RanAbove ms B E lower (update_of ms B r) (updates_of ms B upper)
    → AreVersions ms B E (lower ++ update_of ms B r ∷ updates_of ms B upper) v
    → IsFound ms B (causes_of_loss (caused_chase ms B) s.deps c (suc (length lower)) (laid ms B E lower) (update_of ms B r) (updates_of ms B upper)) (suc (suc (length lower))) (updates_of ms B upper) found

-- In any such history: with the second versions in place of the first, the prepared parts are what its withdrawal leaves.
abbrev pub IsLossPrepared : List Rule → Settings → ℕ → Kept → QueuedUpdate → List QueuedUpdate → Kept → Aftermath → Type 0
IsLossPrepared ms s c v r upper v' left =
    (B : ℕ) (E : List Fact) (lower : List (Update (caused_chase ms B))) → 1 ≤ B → r.program.attempt.number ≡ suc (length lower)
    → RanAbove ms B E lower (update_of ms B r) (updates_of ms B upper)
    → AreVersions ms B E (lower ++ update_of ms B r ∷ updates_of ms B upper) v
    → IsLossLeft ms B s c (suc (length lower)) E lower (update_of ms B r) (updates_of ms B upper) v' left

-- With the second versions in place of the first, the prepared parts are what the withdrawal of update k + 1 leaves, in any
-- history of the queue.
abbrev pub IsLossPreparedAt : List Rule → Settings → ℕ → Kept → List QueuedUpdate → Kept → Aftermath → Type 0
IsLossPreparedAt ms s k v rs v' left =
    (B : ℕ) (requests : List Request) (later : List Operation) (D : List Fact) (H : List PlainEntry) (r : QueuedUpdate) → IsKept (ground_with ms s B D requests later) v rs H → slice_get rs k ≡ Some r
    → IsLossLeft ms B s (committed (caused_chase ms B) (updates_of ms B rs)) (suc k) D (take k (updates_of ms B rs)) (update_of ms B r) (drop (suc k) (updates_of ms B rs)) v' left

-- The update at the place is withdrawn, and the updates above for which there is an attempt have restarted.
abbrev pub IsRemoved : ℕ → List (Option ProgramState) → List QueuedUpdate → List QueuedUpdate → Type 0
IsRemoved k fresh rs rs' =
    (ms : List Rule) (B : ℕ) (r : QueuedUpdate) (xs : List (Option (Cause (caused_chase ms B)))) → slice_get rs k ≡ Some r → map is_some xs ≡ map is_some fresh
    → updates_of ms B rs' ≡ take k (updates_of ms B rs) ++ withdrawn_now (caused_chase ms B) (update_of ms B r) ∷ restart (caused_chase ms B) (suc (suc k)) xs (drop (suc k) (updates_of ms B rs))

-- The entry records the withdrawal of update k + 1, with these causes.
abbrev pub TellsWithdrawal : ℕ → Listed CauseOfProgram → List QueuedUpdate → Entry → Type 0
TellsWithdrawal k causes rs e =
    (ms : List Rule) (B : ℕ) → entry_of e ≡ WasWithdrawn (record { update = suc k; causes = map cause_of causes.items; committed = committed (caused_chase ms B) (updates_of ms B rs) })

-- If update k + 1 is neither committed nor withdrawn, its withdrawal leads from these parts to those.
abbrev pub WithdrawsTo : List Rule → Settings → ℕ → Kept → List QueuedUpdate → List Entry → Kept → List QueuedUpdate → List Entry → Type 0
WithdrawsTo ms s k v rs es v' rs' es' =
    (B : ℕ) (D : List Fact) (requests : List Request) (later : List Operation) → IsKept (ground_with ms s B D requests later) v rs (map entry_of es)
    → option_map (may_withdraw (caused_chase ms B) (updates_of ms B rs) k) (slice_get (updates_of ms B rs) k) ≡ Some true
    → Follows (ground_with ms s B D requests later) (Withdraws (suc k)) (map entry_of es) v' rs' (map entry_of es')
