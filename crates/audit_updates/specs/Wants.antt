-- What an audited update's attempt lacks and wants, for the machine of any mappings and any budget.
use Rattle.std.specs.Prelude.{◌≡◌, ℕ, suc, Bool, true, List, map, Option, Some, None, if◌then◌else◌}
use Rattle.base_types.specs.Meanings.{choice_of}
use Rattle.chase_question.specs.Inquiries.{Inquiry, fits_inquiry}
use Rattle.def_machine.specs.Standings.{Lack, Missing, Misfit, Standing, Ended, Held, lack, unless_paused, is_held, is_ready, standing}
use Rattle.def_machine.specs.Updates.{Settings}
use Rattle.def_chase.specs.Mappings.{Rule}
use Rattle.def_chase.specs.Updates.{Choice}
use Rattle.chase_plan.specs.Planned.{WantsStep}
use Rattle.chase_update.specs.Wishes.{End, end_in, wish}
use Rattle.def_steps.specs.Attempts.{Outcome}
use Rattle.def_steps.specs.Chase.{caused_chase, ending}
use Rattle.audit_updates.specs.Updates.{update_of}
use Rattle.audit_updates.specs.declared.updates.AuditedUpdate.{AuditedUpdate}

-- What is lacking at a question, given the next answer if there is one.
abbrev pub unless_fits : Inquiry → Option Choice → Option Lack
unless_fits i None = Some Missing
unless_fits i (Some c) = if fits_inquiry i c then None else Some Misfit

-- What is lacking at the attempt's question, if it is at one and something is lacking.
abbrev pub HasLack : AuditedUpdate → Option Lack → Type 0
HasLack r l = (ms : List Rule) (B : ℕ) → l ≡ lack (caused_chase ms B) (map choice_of r.answers.items) r.program.attempt

-- Whether the update was restarted too often to go on beside lower updates.
abbrev pub IsHeld : Settings → ℕ → ℕ → AuditedUpdate → Bool → Type 0
IsHeld s c n r b = (ms : List Rule) (B : ℕ) → b ≡ is_held (caused_chase ms B) s c n (update_of ms B r)

-- If the update is ready, its attempt wants a step with this answer, or without one if there is none.
abbrev pub WantsNext : AuditedUpdate → Option Choice → Type 0
WantsNext r c =
    (ms : List Rule) (B : ℕ) (s : Settings) (k n : ℕ) → is_ready (standing (caused_chase ms B) s k n (update_of ms B r)) ≡ true → WantsStep (wish r.program) c

-- The standing of an update whose attempt has this end.
abbrev pub StandsEnded : End → Standing → Type 0
StandsEnded e st = (o : Outcome) → end_in o ≡ e → st ≡ Ended (ending o)

-- The standing of an update that is not withdrawn and whose attempt has not ended.
abbrev pub StandsGoing : Settings → ℕ → ℕ → AuditedUpdate → Standing → Type 0
StandsGoing s c n r st =
    (ms : List Rule) (B : ℕ) → st ≡ (if is_held (caused_chase ms B) s c n (update_of ms B r) then Held (suc c) else unless_paused (lack (caused_chase ms B) (map choice_of r.answers.items) r.program.attempt))
