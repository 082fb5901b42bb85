-- What an event does to one audited update, for the machine of any mappings and any budget.
use Rattle.std.specs.Prelude.{◌≡◌, ℕ, List, map}
use Rattle.base_types.specs.Listed.{Listed}
use Rattle.base_types.specs.Meanings.{choice_of, operation_of}
use Rattle.base_types.specs.declared.updates.Choice.{Choice}
use Rattle.base_types.specs.declared.updates.Update.{Update}
use Rattle.def_machine.specs.Effects.{admitted, answered, delivered, withdrawn_now}
use Rattle.def_machine.specs.Steps.{stepped}
use Rattle.def_chase.specs.Values.{Fact}
use Rattle.def_chase.specs.Mappings.{Rule}
use Rattle.chase_plan.specs.declared.plans.Plan.{Plan}
use Rattle.def_steps.specs.Chase.{caused_chase}
use Rattle.audit_updates.specs.Programs.{IsPlanOf}
use Rattle.audit_updates.specs.Updates.{update_of, StandsAt}
use Rattle.audit_updates.specs.declared.updates.AuditedUpdate.{AuditedUpdate}

-- The audited update keeps its number, and is still between two steps.
abbrev pub KeepsPlace : AuditedUpdate → AuditedUpdate → Type 0
KeepsPlace r r' = (n : ℕ) → StandsAt n r → StandsAt n r'

-- The two audited updates stand for the same update, at the same moment of the same attempt.
abbrev pub IsSame : AuditedUpdate → AuditedUpdate → Type 0
IsSame r r' = (r'.program ≡ r.program) × ((ms : List Rule) (B : ℕ) → update_of ms B r' ≡ update_of ms B r)

-- Update n as it is when it is admitted, with these answers recorded.
abbrev pub IsAdmitted : ℕ → Update → Listed Choice → AuditedUpdate → Type 0
IsAdmitted n u cs r =
    (ms : List Rule) (B : ℕ) → update_of ms B r ≡ admitted (caused_chase ms B) n (record { operation = operation_of u.operation; answers = map choice_of cs.items })

-- The step of the plan is made.
abbrev pub HasStepped : Plan → AuditedUpdate → AuditedUpdate → Type 0
HasStepped plan r r' = (ms : List Rule) (B : ℕ) (D : List Fact) → IsPlanOf ms B D r plan → update_of ms B r' ≡ stepped (caused_chase ms B) D (update_of ms B r)

-- If the plan is the one of its next step, the audited update keeps its number, and is still between two steps.
abbrev pub KeepsPlaceBy : Plan → AuditedUpdate → AuditedUpdate → Type 0
KeepsPlaceBy plan r r' = (ms : List Rule) (B : ℕ) (D : List Fact) (n : ℕ) → IsPlanOf ms B D r plan → StandsAt n r → StandsAt n r'

-- The first recorded answer is delivered, if there is one.
abbrev pub HasDelivered : AuditedUpdate → AuditedUpdate → Type 0
HasDelivered r r' = (ms : List Rule) (B : ℕ) → update_of ms B r' ≡ delivered (caused_chase ms B) (update_of ms B r)

-- The choice is the next answer, and later ones are dropped.
abbrev pub HasAnswered : Choice → AuditedUpdate → AuditedUpdate → Type 0
HasAnswered c r r' = (ms : List Rule) (B : ℕ) → update_of ms B r' ≡ answered (caused_chase ms B) (update_of ms B r) (choice_of c)

-- The update is withdrawn.
abbrev pub HasWithdrawn : AuditedUpdate → AuditedUpdate → Type 0
HasWithdrawn r r' = (ms : List Rule) (B : ℕ) → update_of ms B r' ≡ withdrawn_now (caused_chase ms B) (update_of ms B r)
