-- The entries of a history as plain data. Of the machine they have only writes, replies and choices, so entries for any mappings
-- and budget are of the same type.
use Rattle.std.specs.Prelude.{◌≡◌, ℕ, List, map}
use Rattle.def_machine.specs.Standings.{Standing}
use Rattle.def_machine.specs.Cascade.{Cause, Conflict, Depends}
use Rattle.def_machine.specs.Effects.{Entry, Admitted, Stepped, Delivered, Answered, Withdrew}
use Rattle.def_chase.specs.Repository.{Change}
use Rattle.def_chase.specs.Mappings.{Rule}
use Rattle.def_chase.specs.Queries.{Reply}
use Rattle.def_chase.specs.Updates.{Choice}
use Rattle.def_steps.specs.Chase.{caused_chase}

-- The reader's read, by its number in the reader's log, had the old answer, and with the writer's new writes it has the new one.
pub record ConflictCause : Type 0 where
  pub reader : ℕ
  pub read : ℕ
  pub writer : ℕ
  pub old : Reply
  pub new : Reply

-- The reader's read depends on the writes of update `on`, which lost them.
pub record DependenceCause : Type 0 where
  pub reader : ℕ
  pub read : ℕ
  pub on : ℕ

-- Why an update was restarted.
pub data PlainCause : Type 0 where
  InConflict : ConflictCause → PlainCause
  Dependent : DependenceCause → PlainCause

-- A step: the update and the attempt that made it, the standing after it, the writes that it shows, the causes of restarts, and
-- the number of updates committed after it.
pub record StepMade : Type 0 where
  pub update : ℕ
  pub attempt : ℕ
  pub standing : Standing
  pub writes : List Change
  pub causes : List PlainCause
  pub committed : ℕ

-- A delivery, with the standing after it.
pub record DeliveryMade : Type 0 where
  pub update : ℕ
  pub standing : Standing

-- An answer by a person, with the standing after it.
pub record AnswerMade : Type 0 where
  pub update : ℕ
  pub choice : Choice
  pub standing : Standing

-- A withdrawal: the causes of restarts, and the number of updates committed after it.
pub record WithdrawalMade : Type 0 where
  pub update : ℕ
  pub causes : List PlainCause
  pub committed : ℕ

-- An entry of a history.
pub data PlainEntry : Type 0 where
  WasAdmitted : ℕ → PlainEntry
  WasStepped : StepMade → PlainEntry
  WasDelivered : DeliveryMade → PlainEntry
  WasAnswered : AnswerMade → PlainEntry
  WasWithdrawn : WithdrawalMade → PlainEntry

-- ---- from the machine's entries

-- The cause as plain data.
abbrev pub plain_cause : (ms : List Rule) (B : ℕ) → Cause (caused_chase ms B) → PlainCause
plain_cause ms B (Conflict i r j old new) = InConflict (record { reader = i; read = r; writer = j; old = old; new = new })
plain_cause ms B (Depends i r on) = Dependent (record { reader = i; read = r; on = on })

-- The entry as plain data.
abbrev pub plain_entry : (ms : List Rule) (B : ℕ) → Entry (caused_chase ms B) → PlainEntry
plain_entry ms B (Admitted i) = WasAdmitted i
plain_entry ms B (Stepped e) = WasStepped (record { update = e.update; attempt = e.attempt; standing = e.standing; writes = e.writes; causes = map (plain_cause ms B) e.causes; committed = e.committed })
plain_entry ms B (Delivered i s) = WasDelivered (record { update = i; standing = s })
plain_entry ms B (Answered i c s) = WasAnswered (record { update = i; choice = c; standing = s })
plain_entry ms B (Withdrew i cs n) = WasWithdrawn (record { update = i; causes = map (plain_cause ms B) cs; committed = n })

-- ---- and back to those of the machine with these mappings and this budget

-- The cause of the machine for this plain one.
abbrev pub cause_kept : (ms : List Rule) (B : ℕ) → PlainCause → Cause (caused_chase ms B)
cause_kept ms B (InConflict x) = Conflict x.reader x.read x.writer x.old x.new
cause_kept ms B (Dependent x) = Depends x.reader x.read x.on

-- The entry of the machine for this plain one.
abbrev pub entry_kept : (ms : List Rule) (B : ℕ) → PlainEntry → Entry (caused_chase ms B)
entry_kept ms B (WasAdmitted i) = Admitted i
entry_kept ms B (WasStepped e) = Stepped (record { update = e.update; attempt = e.attempt; standing = e.standing; writes = e.writes; causes = map (cause_kept ms B) e.causes; committed = e.committed })
entry_kept ms B (WasDelivered e) = Delivered e.update e.standing
entry_kept ms B (WasAnswered e) = Answered e.update e.choice e.standing
entry_kept ms B (WasWithdrawn e) = Withdrew e.update (map (cause_kept ms B) e.causes) e.committed

-- Nothing is lost in either direction.
pub record EntriesArePlain : Type 0 where
  pub kept : (ms : List Rule) (B : ℕ) (e : Entry (caused_chase ms B)) → entry_kept ms B (plain_entry ms B e) ≡ e
  pub plain : (ms : List Rule) (B : ℕ) (e : PlainEntry) → plain_entry ms B (entry_kept ms B e) ≡ e
