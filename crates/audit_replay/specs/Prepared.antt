-- Steps before they are made, and the audited updates after a step or a withdrawal, with its entry.
use Rattle.std.specs.Prelude.{◌≡◌, ℕ, List}
use Rattle.base_types.specs.Listed.{Listed}
use Rattle.core_entries.specs.declared.causes.Cause.{Cause as CauseOfProgram}
use Rattle.core_entries.specs.declared.entries.Entry.{Entry}
use Rattle.def_machine.specs.Updates.{Deps, Settings}
use Rattle.def_chase.specs.Mappings.{Rule}
use Rattle.def_chase.specs.Values.{Fact}
use Rattle.audit_updates.specs.Programs.{HasWritten, IsPlanOf}
use Rattle.audit_updates.specs.declared.updates.AuditedUpdate.{AuditedUpdate}
use Rattle.audit_replay.specs.Steps.{AreOfStep, IsRemoved, IsStepMade, TellsStep, TellsWithdrawal}
use Rattle.audit_replay.specs.declared.stepping.Prepared.{Prepared}

-- The next step of the audited update over D, with the audited updates rs above it, if c updates are committed.
pub record IsPreparedFor (ms : List Rule) (B : ℕ) (deps : Deps) (c : ℕ) (r : AuditedUpdate) (D : List Fact) (rs : List AuditedUpdate) (p : Prepared) : Type 0 where
  pub planned : IsPlanOf ms B D r p.plan
  pub causes : AreOfStep ms deps c r p.plan D rs p.causes.items
  pub written : HasWritten r p.plan p.writes.items
  pub attempt : p.attempt ≡ r.program.attempt.attempt

-- The step is made at place k, and e is its entry.
pub record IsInstalled (s : Settings) (k : ℕ) (p : Prepared) (rs rs' : List AuditedUpdate) (e : Entry) : Type 0 where
  pub made : IsStepMade k p.plan p.causes.items rs rs'
  pub told : TellsStep s k p.attempt p.writes p.causes rs' e

-- The update at place k is withdrawn, and e is the entry.
pub record IsWithdrawal (k : ℕ) (causes : Listed CauseOfProgram) (rs rs' : List AuditedUpdate) (e : Entry) : Type 0 where
  pub made : IsRemoved k causes.items rs rs'
  pub told : TellsWithdrawal k causes rs' e
