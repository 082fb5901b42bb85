-- What an event leaves of one queued update, for the machine of any mappings and any budget.
use Rattle.std.specs.Prelude.{◌≡◌, ℕ, ◌≤◌, List, length, map}
use Rattle.base_types.specs.Listed.{Listed}
use Rattle.base_types.specs.Meanings.{choice_of, operation_of}
use Rattle.base_types.specs.declared.updates.Choice.{Choice}
use Rattle.base_types.specs.declared.updates.Update.{Update}
use Rattle.def_machine.specs.Effects.{admitted, answered, delivered, withdrawn_now}
use Rattle.def_machine.specs.Steps.{stepped}
use Rattle.def_chase.specs.Values.{Fact}
use Rattle.def_chase.specs.Mappings.{Rule}
use Rattle.chase_plan.specs.declared.plans.Plan.{Plan}
use Rattle.def_steps.specs.Chase.{caused_chase}
use Rattle.core_queue.specs.Programs.{IsPlanOf}
use Rattle.core_queue.specs.Queues.{update_of, StandsAt}
use Rattle.core_queue.specs.declared.updates.QueuedUpdate.{QueuedUpdate}

-- The queued update is still the update of that number, between two steps.
abbrev pub KeepsPlace : QueuedUpdate → QueuedUpdate → Type 0
KeepsPlace r r' = (n : ℕ) → StandsAt n r → StandsAt n r'

-- The queued updates stand for the same update.
abbrev pub IsSame : QueuedUpdate → QueuedUpdate → Type 0
IsSame r r' = (ms : List Rule) (B : ℕ) → update_of ms B r' ≡ update_of ms B r

-- Update n as it is when it is admitted, with these answers recorded.
abbrev pub IsAdmitted : ℕ → Update → Listed Choice → QueuedUpdate → Type 0
IsAdmitted n u cs r =
    (ms : List Rule) (B : ℕ) → update_of ms B r ≡ admitted (caused_chase ms B) n (record { operation = operation_of u.operation; answers = map choice_of cs.items })

-- There is room for the reads of the plan.
abbrev pub HasRoomFor : Plan → QueuedUpdate → Type 0
HasRoomFor plan r = length plan.reads.items ≤ r.log.spare

-- There is room for one more answer.
abbrev pub HasRoom : QueuedUpdate → Type 0
HasRoom r = 1 ≤ r.answers.spare

-- The step of the plan is made.
abbrev pub HasStepped : Plan → QueuedUpdate → QueuedUpdate → Type 0
HasStepped plan r r' = (ms : List Rule) (B : ℕ) (D : List Fact) → IsPlanOf ms B D r plan → update_of ms B r' ≡ stepped (caused_chase ms B) D (update_of ms B r)

-- If the plan is that of its step, the queued update is still the update of that number, between two steps.
abbrev pub KeepsPlaceBy : Plan → QueuedUpdate → QueuedUpdate → Type 0
KeepsPlaceBy plan r r' = (ms : List Rule) (B : ℕ) (D : List Fact) (n : ℕ) → IsPlanOf ms B D r plan → StandsAt n r → StandsAt n r'

-- The first recorded answer is delivered, if there is one.
abbrev pub HasDelivered : QueuedUpdate → QueuedUpdate → Type 0
HasDelivered r r' = (ms : List Rule) (B : ℕ) → update_of ms B r' ≡ delivered (caused_chase ms B) (update_of ms B r)

-- The choice is the next answer, and later ones are dropped.
abbrev pub HasAnswered : Choice → QueuedUpdate → QueuedUpdate → Type 0
HasAnswered c r r' = (ms : List Rule) (B : ℕ) → update_of ms B r' ≡ answered (caused_chase ms B) (update_of ms B r) (choice_of c)

-- The update is withdrawn.
abbrev pub HasWithdrawn : QueuedUpdate → QueuedUpdate → Type 0
HasWithdrawn r r' = (ms : List Rule) (B : ℕ) → update_of ms B r' ≡ withdrawn_now (caused_chase ms B) (update_of ms B r)
