-- Facts on one audited update, for the machine of any mappings and any budget: c updates are committed, and the audited update
-- has number n.
use Rattle.std.specs.Prelude.{◌≡◌, ℕ, Bool, ◌&&◌, List, map}
use Rattle.base_types.specs.declared.updates.Write.{Write}
use Rattle.base_types.specs.Meanings.{change_of}
use Rattle.core_entries.specs.declared.standings.Standing.{Standing}
use Rattle.core_entries.specs.Meanings.{standing_of}
use Rattle.def_machine.specs.Cascade.{is_live}
use Rattle.def_machine.specs.Standings.{standing, is_ready, is_paused, is_deliverable}
use Rattle.def_machine.specs.Updates.{Settings, trail, is_over}
use Rattle.def_machine.specs.Effects.{fits_question}
use Rattle.def_chase.specs.Mappings.{Rule}
use Rattle.def_chase.specs.Updates.{Choice}
use Rattle.def_steps.specs.Chase.{caused_chase}
use Rattle.audit_updates.specs.Updates.{update_of}
use Rattle.audit_updates.specs.declared.updates.AuditedUpdate.{AuditedUpdate}

-- The update's writes that others see.
abbrev pub HasTrail : AuditedUpdate → List Write → Type 0
HasTrail r ws = (ms : List Rule) (B : ℕ) → map change_of ws ≡ trail (caused_chase ms B) (update_of ms B r)

-- Whether the update was withdrawn or its attempt has ended.
abbrev pub IsOver : AuditedUpdate → Bool → Type 0
IsOver r b = (ms : List Rule) (B : ℕ) → b ≡ is_over (caused_chase ms B) (update_of ms B r)

-- Whether the update is neither withdrawn nor committed.
abbrev pub IsLive : ℕ → ℕ → AuditedUpdate → Bool → Type 0
IsLive c n r b = (ms : List Rule) (B : ℕ) → b ≡ is_live (caused_chase ms B) c n (update_of ms B r)

-- What the update may do next.
abbrev pub HasStanding : Settings → ℕ → ℕ → AuditedUpdate → Standing → Type 0
HasStanding s c n r st = (ms : List Rule) (B : ℕ) → standing_of st ≡ standing (caused_chase ms B) s c n (update_of ms B r)

-- Whether the update may make a step.
abbrev pub IsReady : Settings → ℕ → ℕ → AuditedUpdate → Bool → Type 0
IsReady s c n r b = (ms : List Rule) (B : ℕ) → b ≡ is_ready (standing (caused_chase ms B) s c n (update_of ms B r))

-- Whether a recorded answer may be delivered to the update.
abbrev pub IsDeliverable : Settings → ℕ → ℕ → AuditedUpdate → Bool → Type 0
IsDeliverable s c n r b = (ms : List Rule) (B : ℕ) → b ≡ is_deliverable (caused_chase ms B) s c n (update_of ms B r)

-- Whether the choice answers the question that the attempt is at, if it is at one.
abbrev pub FitsQuestion : Choice → AuditedUpdate → Bool → Type 0
FitsQuestion a r b = (ms : List Rule) (B : ℕ) → b ≡ fits_question (caused_chase ms B) ((caused_chase ms B).question r.program.attempt) a

-- Whether the update takes the choice as an answer.
abbrev pub Takes : Settings → ℕ → ℕ → Choice → AuditedUpdate → Bool → Type 0
Takes s c n a r b =
    (ms : List Rule) (B : ℕ) → b ≡ (is_paused (standing (caused_chase ms B) s c n (update_of ms B r)) && fits_question (caused_chase ms B) ((caused_chase ms B).question r.program.attempt) a)
