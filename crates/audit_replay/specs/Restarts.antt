-- Restarts of the updates that an event aborts.
use Rattle.std.specs.Prelude.{◌≡◌, ℕ, suc, if◌then◌else◌, List, [], ◌∷◌, ◌++◌, take, drop}
use Rattle.core_entries.specs.declared.causes.Cause.{Cause as CauseOfProgram}
use Rattle.def_machine.specs.Cascade.{begun_again, has_number, restarted}
use Rattle.def_chase.specs.Mappings.{Rule}
use Rattle.def_steps.specs.Chase.{caused_chase}
use Rattle.audit_updates.specs.Renewals.{HasOneMore}
use Rattle.audit_updates.specs.Updates.{update_of, updates_of}
use Rattle.audit_updates.specs.declared.updates.AuditedUpdate.{AuditedUpdate}
use Rattle.audit_replay.specs.Causes.{readers_in}

-- The next attempt of each update has a number of 32 bits.
abbrev pub AllHaveOneMore : List AuditedUpdate → Type 0
AllHaveOneMore [] = Unit {0}
AllHaveOneMore (r ∷ rs) = HasOneMore r × AllHaveOneMore rs

-- The update begins its next attempt if a cause is for it, and otherwise stays as it is.
abbrev pub HasRestartedIf : List CauseOfProgram → AuditedUpdate → AuditedUpdate → Type 0
HasRestartedIf causes r r' =
    (ms : List Rule) (B : ℕ)
    → update_of ms B r' ≡ (if has_number (readers_in causes) r.program.attempt.number then begun_again (caused_chase ms B) r.program.attempt.number (update_of ms B r) else update_of ms B r)

-- From place k on the updates are restarted that the causes are for.
abbrev pub HaveRestarted : ℕ → List CauseOfProgram → List AuditedUpdate → List AuditedUpdate → Type 0
HaveRestarted k causes rs rs' =
    (ms : List Rule) (B : ℕ)
    → updates_of ms B rs' ≡ take k (updates_of ms B rs) ++ restarted (caused_chase ms B) (readers_in causes) (suc k) (drop k (updates_of ms B rs))
