-- Steps and withdrawals of the update at a place, in plain data.
use Rattle.std.specs.Prelude.{◌≡◌, ◌&&◌, ℕ, suc, true, false, List, [], ◌∷◌, ◌++◌, map, take, drop, Some, slice_get}
use Rattle.base_types.specs.Listed.{Listed}
use Rattle.base_types.specs.Meanings.{change_of}
use Rattle.base_types.specs.declared.updates.Write.{Write}
use Rattle.core_entries.specs.Meanings.{cause_of, entry_of}
use Rattle.core_entries.specs.declared.causes.Cause.{Cause as CauseOfProgram}
use Rattle.core_entries.specs.declared.entries.Entry.{Entry}
use Rattle.def_history.specs.PlainEntries.{WasAnswered, WasDelivered, WasStepped, WasWithdrawn}
use Rattle.def_machine.specs.Cascade.{is_live, restarted}
use Rattle.def_machine.specs.Effects.{answered, causes_of_step, delivered, fits_question, is_spent, withdrawn_now}
use Rattle.def_machine.specs.Standings.{is_deliverable, is_paused, is_ready, standing}
use Rattle.def_machine.specs.Steps.{stepped}
use Rattle.def_machine.specs.Updates.{Deps, Settings, committed, hides, trail}
use Rattle.def_chase.specs.Mappings.{Rule}
use Rattle.def_chase.specs.Repository.{IsRepository, apply}
use Rattle.def_chase.specs.Updates.{Choice}
use Rattle.def_chase.specs.Values.{Fact}
use Rattle.chase_plan.specs.declared.plans.Plan.{Plan}
use Rattle.def_steps.specs.Chase.{caused_chase}
use Rattle.audit_updates.specs.Programs.{IsPlanOf}
use Rattle.audit_updates.specs.Updates.{AreFrom, update_of, updates_of}
use Rattle.audit_updates.specs.declared.updates.AuditedUpdate.{AuditedUpdate}
use Rattle.audit_replay.specs.Causes.{causes_meant, readers_in}
use Rattle.audit_replay.specs.Met.{AreValid}

-- The audited update is ready, in some history.
pub record IsReadySomewhere (r : AuditedUpdate) : Type 0 where
  pub rules : List Rule
  pub budget : ℕ
  pub settings : Settings
  pub committed : ℕ
  pub number : ℕ
  pub ready : is_ready (standing (caused_chase rules budget) settings committed number (update_of rules budget r)) ≡ true

-- The audited update, with number n, is ready while c updates are committed.
abbrev pub IsReadyOf : Settings → ℕ → ℕ → AuditedUpdate → Type 0
IsReadyOf s c n r = (ms : List Rule) (B : ℕ) → is_ready (standing (caused_chase ms B) s c n (update_of ms B r)) ≡ true

-- The audited update, with number n, is neither withdrawn nor committed while c updates are committed.
abbrev pub IsLiveOf : ℕ → ℕ → AuditedUpdate → Type 0
IsLiveOf c n r = (ms : List Rule) (B : ℕ) → is_live (caused_chase ms B) c n (update_of ms B r) ≡ true

-- The plan is the one of a step of the audited update, over some set of tuples.
pub record IsPlanSomewhere (plan : Plan) (r : AuditedUpdate) : Type 0 where
  pub rules : List Rule
  pub budget : ℕ
  pub below : List Fact
  pub planned : IsPlanOf rules budget below r plan

-- The audited update at place k, if there is one, has the property P.
abbrev pub AtPlace : ℕ → List AuditedUpdate → (AuditedUpdate → Type 0) → Type 0
AtPlace k rs P = (r : AuditedUpdate) → slice_get rs k ≡ Some r → P r

-- The causes for which the step of the plan restarts audited updates. The stepping update is ready; D lies below it and rs above
-- it. All reads of rs were valid before, and an attempt that is refused by the step has written nothing.
abbrev pub AreOfStep : List Rule → Deps → ℕ → AuditedUpdate → Plan → List Fact → List AuditedUpdate → List CauseOfProgram → Type 0
AreOfStep ms deps c r plan D rs causes =
    (B k n : ℕ) (s : Settings) → IsPlanOf ms B D r plan → is_ready (standing (caused_chase ms B) s k n (update_of ms B r)) ≡ true
    → (hides ((caused_chase ms B).outcome (stepped (caused_chase ms B) D (update_of ms B r)).state) ≡ true → is_spent ((caused_chase ms B).outcome (stepped (caused_chase ms B) D (update_of ms B r)).state) ≡ false → trail (caused_chase ms B) (update_of ms B r) ≡ [])
    → AreFrom (suc r.program.attempt.number) rs → IsRepository D
    → AreValid (caused_chase ms B) (suc r.program.attempt.number) (apply D (trail (caused_chase ms B) (update_of ms B r))) (updates_of ms B rs)
    → causes_meant ms B causes ≡ causes_of_step (caused_chase ms B) deps c r.program.attempt.number D (update_of ms B r) (stepped (caused_chase ms B) D (update_of ms B r)) (updates_of ms B rs)

-- The update at place k has made the step of the plan, and the updates above it that the causes are for have restarted.
abbrev pub IsStepMade : ℕ → Plan → List CauseOfProgram → List AuditedUpdate → List AuditedUpdate → Type 0
IsStepMade k plan causes rs rs' =
    (ms : List Rule) (B : ℕ) (D : List Fact) (r : AuditedUpdate) → slice_get rs k ≡ Some r → IsPlanOf ms B D r plan
    → updates_of ms B rs' ≡ take k (updates_of ms B rs) ++ stepped (caused_chase ms B) D (update_of ms B r) ∷ restarted (caused_chase ms B) (readers_in causes) (suc (suc k)) (drop (suc k) (updates_of ms B rs))

-- The update at place k is withdrawn, and the updates above it that the causes are for have restarted.
abbrev pub IsRemoved : ℕ → List CauseOfProgram → List AuditedUpdate → List AuditedUpdate → Type 0
IsRemoved k causes rs rs' =
    (ms : List Rule) (B : ℕ) (r : AuditedUpdate) → slice_get rs k ≡ Some r
    → updates_of ms B rs' ≡ take k (updates_of ms B rs) ++ withdrawn_now (caused_chase ms B) (update_of ms B r) ∷ restarted (caused_chase ms B) (readers_in causes) (suc (suc k)) (drop (suc k) (updates_of ms B rs))

-- The entry is the one of a step of the update at place k, with this attempt, these writes and these causes.
abbrev pub TellsStep : Settings → ℕ → ℕ → Listed Write → Listed CauseOfProgram → List AuditedUpdate → Entry → Type 0
TellsStep s k attempt writes causes rs e =
    (ms : List Rule) (B : ℕ) (r : AuditedUpdate) → slice_get rs k ≡ Some r
    → entry_of e ≡ WasStepped (record {
      update = suc k;
      attempt = attempt;
      standing = standing (caused_chase ms B) s (committed (caused_chase ms B) (updates_of ms B rs)) (suc k) (update_of ms B r);
      writes = map change_of writes.items;
      causes = map cause_of causes.items;
      committed = committed (caused_chase ms B) (updates_of ms B rs);
    })

-- The entry is the one of a withdrawal of the update at place k, with these causes.
abbrev pub TellsWithdrawal : ℕ → Listed CauseOfProgram → List AuditedUpdate → Entry → Type 0
TellsWithdrawal k causes rs e =
    (ms : List Rule) (B : ℕ) → entry_of e ≡ WasWithdrawn (record { update = suc k; causes = map cause_of causes.items; committed = committed (caused_chase ms B) (updates_of ms B rs) })

-- The update at the place is pending, with a recorded answer.
abbrev pub IsDeliverableOf : Settings → ℕ → List AuditedUpdate → Type 0
IsDeliverableOf s k rs =
    (ms : List Rule) (B : ℕ) (r : AuditedUpdate) → slice_get rs k ≡ Some r → is_deliverable (caused_chase ms B) s (committed (caused_chase ms B) (updates_of ms B rs)) (suc k) (update_of ms B r) ≡ true

-- The update at place k is paused, and the choice answers its question.
abbrev pub TakesOf : Settings → Choice → ℕ → List AuditedUpdate → Type 0
TakesOf s a k rs =
    (ms : List Rule) (B : ℕ) (r : AuditedUpdate) → slice_get rs k ≡ Some r
    → (is_paused (standing (caused_chase ms B) s (committed (caused_chase ms B) (updates_of ms B rs)) (suc k) (update_of ms B r)) && fits_question (caused_chase ms B) ((caused_chase ms B).question r.program.attempt) a) ≡ true

-- The first recorded answer is delivered to the update at place k, and e is the entry.
abbrev pub IsDelivered : Settings → ℕ → List AuditedUpdate → List AuditedUpdate → Entry → Type 0
IsDelivered s k rs rs' e =
    (ms : List Rule) (B : ℕ) (r : AuditedUpdate) → slice_get rs k ≡ Some r
    → (updates_of ms B rs' ≡ take k (updates_of ms B rs) ++ delivered (caused_chase ms B) (update_of ms B r) ∷ drop (suc k) (updates_of ms B rs))
    × (entry_of e ≡ WasDelivered (record { update = suc k; standing = standing (caused_chase ms B) s (committed (caused_chase ms B) (updates_of ms B rs')) (suc k) (delivered (caused_chase ms B) (update_of ms B r)) }))

-- The update at place k is answered with the choice a, and e is the entry.
abbrev pub IsAnswered : Settings → ℕ → Choice → List AuditedUpdate → List AuditedUpdate → Entry → Type 0
IsAnswered s k a rs rs' e =
    (ms : List Rule) (B : ℕ) (r : AuditedUpdate) → slice_get rs k ≡ Some r
    → (updates_of ms B rs' ≡ take k (updates_of ms B rs) ++ answered (caused_chase ms B) (update_of ms B r) a ∷ drop (suc k) (updates_of ms B rs))
    × (entry_of e
    ≡ WasAnswered (record { update = suc k; choice = a; standing = standing (caused_chase ms B) s (committed (caused_chase ms B) (updates_of ms B rs')) (suc k) (answered (caused_chase ms B) (update_of ms B r) a) }))
