-- What an event makes of the parts of a core.
use Rattle.std.specs.Prelude.{◌≡◌, ◌≤◌, ℕ, suc, List, ◌∷◌, ◌++◌, map, take, drop, Option, Some, is_some, true, slice_get}
use Rattle.std.specs.Option.{option_map}
use Rattle.base_types.specs.Meanings.{change_of}
use Rattle.base_types.specs.Listed.{Listed}
use Rattle.base_types.specs.declared.updates.Write.{Write}
use Rattle.core_entries.specs.Meanings.{cause_of, entry_of}
use Rattle.core_entries.specs.declared.causes.Cause.{Cause as CauseOfProgram}
use Rattle.core_entries.specs.declared.entries.Entry.{Entry}
use Rattle.def_history.specs.Cores.{Ground, machine, grown}
use Rattle.def_history.specs.PlainEntries.{PlainEntry, WasStepped, WasDelivered}
use Rattle.def_machine.specs.Cascade.{Cause}
use Rattle.def_machine.specs.Effects.{Event, Steps, Delivers}
use Rattle.def_machine.specs.Settle.{restart}
use Rattle.def_machine.specs.Standings.{Ready, standing, is_deliverable}
use Rattle.def_machine.specs.Steps.{stepped}
use Rattle.def_machine.specs.Updates.{Settings, committed, below}
use Rattle.def_chase.specs.Mappings.{Rule}
use Rattle.def_chase.specs.Updates.{Operation}
use Rattle.def_chase.specs.Values.{Fact}
use Rattle.chase_plan.specs.declared.plans.Plan.{Plan}
use Rattle.chase_update.specs.Courses.{State as ProgramState}
use Rattle.chase_query.specs.Meanings.{reads_in}
use Rattle.core_queue.specs.Events.{HasRoom, HasRoomFor}
use Rattle.core_queue.specs.Programs.{IsPlanOf}
use Rattle.core_queue.specs.Queues.{update_of, updates_of, AreFrom}
use Rattle.core_queue.specs.Order.{CommitsAtLeast, ReadsAtMost, UnreadyUpTo}
use Rattle.core_queue.specs.declared.updates.QueuedUpdate.{QueuedUpdate}
use Rattle.def_steps.specs.Chase.{caused_chase}
use Rattle.def_steps.specs.Serial.{Request}
use Rattle.set_versions.specs.Standing.{Kept}
use Rattle.core_engine.specs.Kept.{IsKept}
use Rattle.core_engine.specs.Planned.{PlanMeant, IsSomeThat, IsStepAmong}
use Rattle.core_engine.specs.Steps.{IsStepLeft}
use Rattle.core_engine.specs.declared.stepping.Prepared.{Prepared}

-- The event was allowed after the entries; a core with its entry after them has these parts.
pub record Follows (g : Ground) (e : Event (machine g)) (H : List PlainEntry) (v : Kept) (rs : List QueuedUpdate) (H' : List PlainEntry) : Type 0 where
  pub grows : grown g H e ≡ Some H'
  pub kept : IsKept g v rs H'

-- What a history is over, with these mappings and settings, and any budget, base and updates.
abbrev pub ground_with : List Rule → Settings → ℕ → List Fact → List Request → List Operation → Ground
ground_with ms s B D requests later =
    record { rules = ms; budget = B; settings = s; base = D; requests = requests; later = later }

-- The queued updates stand for the same updates, in the same places.
pub record AreSame (rs rs' : List QueuedUpdate) : Type 0 where
  pub updates : (ms : List Rule) (B : ℕ) → updates_of ms B rs' ≡ updates_of ms B rs
  pub numbers : AreFrom 1 rs → AreFrom 1 rs'

-- The plan as callers see it.
abbrev pub meant_of : ℕ → Plan → PlanMeant
meant_of n plan = record { update = n; program = plan.program; reads = reads_in plan.reads.items }

-- The plan is that of a step of the queued update, over something.
pub record IsPlanFor (r : QueuedUpdate) (plan : Plan) : Type 0 where
  pub rules : List Rule
  pub budget : ℕ
  pub below : List Fact
  pub planned : IsPlanOf rules budget below r plan

-- There is a queued update at the place that has room for the reads of the plan.
abbrev pub HasRoomAt : ℕ → Plan → List QueuedUpdate → Type 0
HasRoomAt k plan rs = IsSomeThat (λ (r : QueuedUpdate). HasRoomFor plan r) (slice_get rs k)

-- There is a queued update at the place, and the plan is that of a step of it.
abbrev pub IsPlanAt : ℕ → Plan → List QueuedUpdate → Type 0
IsPlanAt k plan rs = IsSomeThat (λ (r : QueuedUpdate). IsPlanFor r plan) (slice_get rs k)

-- There is a queued update at the place that has room for one more answer.
abbrev pub HasAnswerRoomAt : ℕ → List QueuedUpdate → Type 0
HasAnswerRoomAt k rs = IsSomeThat (λ (r : QueuedUpdate). HasRoom r) (slice_get rs k)

-- With the second versions in place of the first, the prepared parts are what the step of the plan leaves, in any history of
-- the queue.
abbrev pub IsPreparedAt : List Rule → Settings → ℕ → Plan → Kept → List QueuedUpdate → Kept → Prepared → Type 0
IsPreparedAt ms s k plan v rs v' p =
    (B : ℕ) (requests : List Request) (later : List Operation) (D : List Fact) (H : List PlainEntry) (r : QueuedUpdate) → IsKept (ground_with ms s B D requests later) v rs H → slice_get rs k ≡ Some r
    → standing (caused_chase ms B) s (committed (caused_chase ms B) (updates_of ms B rs)) (suc k) (update_of ms B r) ≡ Ready
    → IsPlanOf ms B (below (caused_chase ms B) D (updates_of ms B rs) k) r plan
    → IsStepLeft ms B s (committed (caused_chase ms B) (updates_of ms B rs)) (suc k) D (take k (updates_of ms B rs)) (update_of ms B r) (drop (suc k) (updates_of ms B rs)) v' p

-- The updates that were committed before still are, as far as they stand below the place.
abbrev pub KeepsCommitted : ℕ → List QueuedUpdate → List QueuedUpdate → Type 0
KeepsCommitted k rs rs' = (c : ℕ) → c ≤ k → CommitsAtLeast rs c → CommitsAtLeast rs' c

-- The updates that had read nothing before still have not, as far as they stand above the place.
abbrev pub KeepsUnread : ℕ → List QueuedUpdate → List QueuedUpdate → Type 0
KeepsUnread k rs rs' = (n : ℕ) → suc k ≤ n → ReadsAtMost rs n → ReadsAtMost rs' n

-- The updates that were unready before still are, as far as they stand below the place.
abbrev pub KeepsUnready : ℕ → List QueuedUpdate → List QueuedUpdate → Type 0
KeepsUnready k rs rs' = (n : ℕ) → n ≤ k → UnreadyUpTo rs n → UnreadyUpTo rs' n

-- The update at the place has made the step of the plan, and the updates above for which there is an attempt have restarted.
abbrev pub IsInstalled : ℕ → Plan → List (Option ProgramState) → List QueuedUpdate → List QueuedUpdate → Type 0
IsInstalled k plan fresh rs rs' =
    (ms : List Rule) (B : ℕ) (D : List Fact) (r : QueuedUpdate) (xs : List (Option (Cause (caused_chase ms B)))) → slice_get rs k ≡ Some r → IsPlanOf ms B D r plan → map is_some xs ≡ map is_some fresh
    → updates_of ms B rs' ≡ take k (updates_of ms B rs) ++ stepped (caused_chase ms B) D (update_of ms B r) ∷ restart (caused_chase ms B) (suc (suc k)) xs (drop (suc k) (updates_of ms B rs))

-- The entry records a step of the update at the place, by this attempt, with these writes and causes.
abbrev pub TellsStep : Settings → ℕ → ℕ → Listed Write → Listed CauseOfProgram → List QueuedUpdate → Entry → Type 0
TellsStep s k attempt writes causes rs e =
    (ms : List Rule) (B : ℕ) (r : QueuedUpdate) → slice_get rs k ≡ Some r
    → entry_of e ≡ WasStepped (record {
      update = suc k;
      attempt = attempt;
      standing = standing (caused_chase ms B) s (committed (caused_chase ms B) (updates_of ms B rs)) (suc k) (update_of ms B r);
      writes = map change_of writes.items;
      causes = map cause_of causes.items;
      committed = committed (caused_chase ms B) (updates_of ms B rs);
    })

-- The entry records a delivery to the update at the place.
abbrev pub TellsDelivery : Settings → ℕ → List QueuedUpdate → Entry → Type 0
TellsDelivery s k rs e =
    (ms : List Rule) (B : ℕ) (r : QueuedUpdate) → slice_get rs k ≡ Some r
    → entry_of e ≡ WasDelivered (record { update = suc k; standing = standing (caused_chase ms B) s (committed (caused_chase ms B) (updates_of ms B rs)) (suc k) (update_of ms B r) })

-- If update k + 1 is ready and the plan is its next step, the step leads from these parts to those.
abbrev pub StepsTo : List Rule → Settings → ℕ → Plan → Kept → List QueuedUpdate → List Entry → Kept → List QueuedUpdate → List Entry → Type 0
StepsTo ms s k plan v rs es v' rs' es' =
    (B : ℕ) (D : List Fact) (requests : List Request) (later : List Operation) → IsKept (ground_with ms s B D requests later) v rs (map entry_of es)
    → option_map (standing (caused_chase ms B) s (committed (caused_chase ms B) (updates_of ms B rs)) (suc k)) (slice_get (updates_of ms B rs) k) ≡ Some Ready
    → IsStepAmong ms B D (updates_of ms B rs) (suc k) (meant_of (suc k) plan)
    → Follows (ground_with ms s B D requests later) (Steps (suc k)) (map entry_of es) v' rs' (map entry_of es')

-- If update k + 1 is deliverable, the delivery to it leads from these parts to those.
abbrev pub DeliversTo : Settings → ℕ → List QueuedUpdate → List Entry → List QueuedUpdate → List Entry → Type 0
DeliversTo s k rs es rs' es' =
    (ms : List Rule) (v : Kept) (B : ℕ) (D : List Fact) (requests : List Request) (later : List Operation) → IsKept (ground_with ms s B D requests later) v rs (map entry_of es)
    → option_map (is_deliverable (caused_chase ms B) s (committed (caused_chase ms B) (updates_of ms B rs)) (suc k)) (slice_get (updates_of ms B rs) k) ≡ Some true
    → Follows (ground_with ms s B D requests later) (Delivers (suc k)) (map entry_of es) v rs' (map entry_of es')
