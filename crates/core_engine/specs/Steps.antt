-- What a step leaves, before and after it is put in place.
use Rattle.std.specs.Prelude.{◌≡◌, ◌≤◌, ℕ, suc, Bool, true, List, [], ◌∷◌, ◌++◌, map, length, Option, is_some}
use Rattle.std.specs.Option.{option_map}
use Rattle.base_types.specs.Meanings.{change_of}
use Rattle.base_types.specs.declared.updates.Write.{Write}
use Rattle.core_conflict.specs.Concerns.{AgreeBut}
use Rattle.core_conflict.specs.declared.concerns.Sense.{Sense}
use Rattle.core_entries.specs.Meanings.{cause_of}
use Rattle.core_entries.specs.declared.causes.Cause.{Cause as CauseOfProgram}
use Rattle.def_history.specs.PlainEntries.{cause_kept}
use Rattle.def_machine.specs.Cascade.{Cause, readers, restarted}
use Rattle.def_machine.specs.Effects.{causes_of_step}
use Rattle.def_machine.specs.Runs.{AreRuns}
use Rattle.def_machine.specs.Settle.{restart}
use Rattle.def_machine.specs.Standings.{is_ready, standing}
use Rattle.def_machine.specs.Steps.{stepped, step_writes as writes_of_step}
use Rattle.def_machine.specs.Updates.{Settings, Update, hides, trail}
use Rattle.def_chase.specs.Mappings.{Rule}
use Rattle.def_chase.specs.Repository.{Change, IsRepository, apply}
use Rattle.def_chase.specs.Values.{Fact}
use Rattle.chase_plan.specs.declared.plans.Plan.{Plan}
use Rattle.chase_update.specs.Courses.{State}
use Rattle.core_queue.specs.Programs.{IsPlanOf}
use Rattle.core_queue.specs.Queues.{update_of, updates_of, AreFrom}
use Rattle.core_queue.specs.Order.{ReadsAtMost}
use Rattle.core_queue.specs.declared.updates.QueuedUpdate.{QueuedUpdate}
use Rattle.def_steps.specs.Attempts.{outcome_in}
use Rattle.def_steps.specs.Chase.{caused_chase, ending}
use Rattle.core_cascade.specs.Held.{AreVersions, laid, above}
use Rattle.set_versions.specs.Standing.{Kept, StandFor}
use Rattle.set_versions.specs.Trails.{SameBut}
use Rattle.core_engine.specs.Aftermaths.{in_order}
use Rattle.core_engine.specs.declared.stepping.Prepared.{Prepared}

-- Whether the attempt ended spent or refused.
abbrev pub HasHidden : State → Bool → Type 0
HasHidden s b = b ≡ hides (option_map ending (outcome_in s.attempt.phase))

module _ (ms : List Rule) (B : ℕ) where
  -- The update may make a step.
  abbrev pub MayStep : Settings → ℕ → ℕ → QueuedUpdate → Type 0
  MayStep s c n r = is_ready (standing (caused_chase ms B) s c n (update_of ms B r)) ≡ true

  -- Whatever the versions stood for, update n now has the second trail in place of the first.
  abbrev pub Replaces : ℕ → List Change → List Change → Kept → Kept → Type 0
  Replaces n ws vs old new =
      (E : List Fact) (before after : ℕ → List Change) → StandFor old E before → before n ≡ ws → after n ≡ vs → SameBut n before after → StandFor new E after

  -- These are the causes, and exactly the updates that have one are restarted; the first of the updates has number n.
  pub record IsFound (causes : List (Cause (caused_chase ms B))) (n : ℕ) (us : List (Update (caused_chase ms B))) (found : List (Option CauseOfProgram)) : Type 0 where
    pub told : map (cause_kept ms B) (map cause_of (in_order found)) ≡ causes
    pub restarts : (xs : List (Option (Cause (caused_chase ms B)))) → map is_some xs ≡ map is_some found
        → restart (caused_chase ms B) n xs us ≡ restarted (caused_chase ms B) (readers causes) n us

  -- The update after its step above the lower ones, which stand over E.
  abbrev pub after_step : List Fact → List (Update (caused_chase ms B)) → Update (caused_chase ms B) → Update (caused_chase ms B)
  after_step E lower u = stepped (caused_chase ms B) (laid ms B E lower) u

  -- The causes of the step of the update, which has number j.
  abbrev pub causes_above : Settings → ℕ → ℕ → List Fact → List (Update (caused_chase ms B)) → Update (caused_chase ms B) → List (Update (caused_chase ms B)) → List (Cause (caused_chase ms B))
  causes_above s c j E lower u upper = causes_of_step (caused_chase ms B) s.deps c j (laid ms B E lower) u (after_step E lower u) upper

  -- The updates above after the step of the update, which has number j.
  abbrev pub restarted_above : Settings → ℕ → ℕ → List Fact → List (Update (caused_chase ms B)) → Update (caused_chase ms B) → List (Update (caused_chase ms B)) → List (Update (caused_chase ms B))
  restarted_above s c j E lower u upper = restarted (caused_chase ms B) (readers (causes_above s c j E lower u upper)) (suc j) upper

  -- What the step leaves: its causes, the restarts, these versions, and its writes.
  pub record IsStepLeft (s : Settings) (c j : ℕ) (E : List Fact) (lower : List (Update (caused_chase ms B))) (u : Update (caused_chase ms B)) (upper : List (Update (caused_chase ms B))) (v : Kept) (p : Prepared) : Type 0 where
    pub causes : map (cause_kept ms B) (map cause_of p.left.causes.items) ≡ causes_above s c j E lower u upper
    pub restarts : (xs : List (Option (Cause (caused_chase ms B)))) → map is_some xs ≡ map is_some p.left.fresh.items
        → restart (caused_chase ms B) (suc j) xs upper ≡ restarted_above s c j E lower u upper
    pub versions : AreVersions ms B E (lower ++ after_step E lower u ∷ restarted_above s c j E lower u upper) v
    pub writes : map change_of p.writes.items ≡ writes_of_step (caused_chase ms B) (laid ms B E lower) u

-- In any history of these mappings in which the update is ready and the plan is its step: the versions have the update's trail
-- after the step in place of its trail before.
abbrev pub ShowsStep : QueuedUpdate → Plan → Kept → Kept → Type 0
ShowsStep r plan old new =
    (ms : List Rule) (B : ℕ) (D : List Fact) (s : Settings) (c n : ℕ) → MayStep ms B s c n r → IsPlanOf ms B D r plan
    → Replaces ms B r.program.attempt.number (trail (caused_chase ms B) (update_of ms B r)) (trail (caused_chase ms B) (stepped (caused_chase ms B) D (update_of ms B r))) old new

-- In any such history: before and after the step the same tuples lie above the update, except the tuples of these writes.
abbrev pub HasTurned : QueuedUpdate → Plan → Sense → List Write → Type 0
HasTurned r plan g ws =
    (ms : List Rule) (B : ℕ) (D E : List Fact) (s : Settings) (c n : ℕ) → MayStep ms B s c n r → IsPlanOf ms B D r plan → IsRepository E
    → AgreeBut g (map change_of ws ∷ []) (apply E (trail (caused_chase ms B) (update_of ms B r))) (apply E (trail (caused_chase ms B) (stepped (caused_chase ms B) D (update_of ms B r))))

-- Each of the upper updates was its run over what lay below it before the event; u stands above the lower updates.
abbrev pub RanAbove : (ms : List Rule) (B : ℕ) → List Fact → List (Update (caused_chase ms B)) → Update (caused_chase ms B) → List (Update (caused_chase ms B)) → Type 0
RanAbove ms B E lower u upper = AreRuns (caused_chase ms B) (above ms B E lower u) (suc (suc (length lower))) upper

-- In any history of these mappings in which the update stands above the lower ones and is ready, and the plan is its step: this
-- was found. The versions are those before the step and those after it, without restarts.
abbrev pub WereFound : List Rule → Settings → ℕ → Kept → Kept → QueuedUpdate → List QueuedUpdate → Plan → List (Option CauseOfProgram) → Type 0
WereFound ms s c old new r upper plan found =
    (B : ℕ) (E : List Fact) (lower : List (Update (caused_chase ms B))) (k n : ℕ) → 1 ≤ B → r.program.attempt.number ≡ suc (length lower)
    → RanAbove ms B E lower (update_of ms B r) (updates_of ms B upper) → MayStep ms B s k n r
    → AreVersions ms B E (lower ++ update_of ms B r ∷ updates_of ms B upper) old → AreVersions ms B E (lower ++ after_step ms B E lower (update_of ms B r) ∷ updates_of ms B upper) new
    → IsPlanOf ms B (laid ms B E lower) r plan
    → IsFound ms B (causes_above ms B s c (suc (length lower)) E lower (update_of ms B r) (updates_of ms B upper)) (suc (suc (length lower))) (updates_of ms B upper) found

-- In any history of these mappings over E in which the update stands above the lower ones and is ready, and the plan is its
-- step: with the second versions in place of the first, the prepared parts are what the step leaves.
abbrev pub IsPrepared : List Rule → Settings → ℕ → Kept → QueuedUpdate → List QueuedUpdate → Plan → Kept → Prepared → Type 0
IsPrepared ms s c v r upper plan v' p =
    (B : ℕ) (E : List Fact) (lower : List (Update (caused_chase ms B))) (k n : ℕ) → 1 ≤ B → r.program.attempt.number ≡ suc (length lower)
    → RanAbove ms B E lower (update_of ms B r) (updates_of ms B upper)
    → AreVersions ms B E (lower ++ update_of ms B r ∷ updates_of ms B upper) v → MayStep ms B s k n r
    → IsPlanOf ms B (laid ms B E lower) r plan → IsStepLeft ms B s c r.program.attempt.number E lower (update_of ms B r) (updates_of ms B upper) v' p

-- The prepared parts are what the step leaves, whichever updates stand above, if none of these has read anything.
abbrev pub IsPreparedAlone : Kept → QueuedUpdate → Plan → Kept → Prepared → Type 0
IsPreparedAlone v r plan v' p =
    (ms : List Rule) (s : Settings) (c : ℕ) (upper : List QueuedUpdate) → AreFrom (suc r.program.attempt.number) upper → ReadsAtMost upper 0 → IsPrepared ms s c v r upper plan v' p
