-- Restarts.
use Rattle.std.specs.Prelude.{◌≡◌, ℕ, ◌+◌, ◌<◌, ◌^◌, List}
use Rattle.def_machine.specs.Cascade.{begun_again}
use Rattle.def_chase.specs.Mappings.{Rule}
use Rattle.def_steps.specs.Chase.{caused_chase}
use Rattle.audit_updates.specs.Updates.{update_of}
use Rattle.audit_updates.specs.declared.updates.AuditedUpdate.{AuditedUpdate}

-- The next attempt has a number of 32 bits.
abbrev pub HasOneMore : AuditedUpdate → Type 0
HasOneMore r = r.program.attempt.attempt + 1 < 2 ^ 32

-- The update begins its next attempt.
abbrev pub HasRestarted : AuditedUpdate → AuditedUpdate → Type 0
HasRestarted r r' = (ms : List Rule) (B : ℕ) → update_of ms B r' ≡ begun_again (caused_chase ms B) r.program.attempt.number (update_of ms B r)
