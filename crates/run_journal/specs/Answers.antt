-- When each answer of a call on a journal comes, and what it leaves.
use Rattle.std.specs.Prelude.{◌≡◌, ◌⊎◌, ℕ, ◌<◌, ◌≤◌, List, map, Result, Ok, Err, length}
use Rattle.base_devices.specs.States.{State, HasFailed, IsLeft}
use Rattle.base_roll.specs.declared.rolls.AppendFault.{AppendFault as RollFault}
use Rattle.base_roll.specs.declared.rolls.AppendFault.TheVariants as rolling
use Rattle.base_roll.specs.Rolls.{Hold as RollHold}
use Rattle.def_language.specs.Sessions.{SessionData}
use Rattle.def_chase.specs.Values.{Fact}
use Rattle.def_chase.specs.Repository.{Change}
use Rattle.base_types.specs.Meanings.{change_of, fact_of}
use Rattle.lang_session.specs.Meanings.{session_of}
use Rattle.run_journal.specs.declared.appending.TheConstants.{PAYLOAD_LIMIT}
use Rattle.run_journal.specs.declared.journals.Commit.{Commit}
use Rattle.run_journal.specs.declared.journals.Recovered.{Recovered}
use Rattle.run_journal.specs.declared.journals.CreateFault.{CreateFault}
use Rattle.run_journal.specs.declared.journals.CreateFault.TheVariants as creating
use Rattle.run_journal.specs.declared.journals.AppendFault.{AppendFault}
use Rattle.run_journal.specs.declared.journals.AppendFault.TheVariants as appending
use Rattle.run_journal.specs.declared.journals.RecoverFault.{RecoverFault}
use Rattle.run_journal.specs.declared.journals.RecoverFault.TheVariants as recovering
use Rattle.run_journal.specs.Format.{logged}
use Rattle.run_journal.specs.Journals.{Hold, IsJournal, gate_of, repository_of}
use Rattle.run_journal.specs.Damage.{IsDamagedAt}

-- what is logged of a commit
abbrev pub writes_of : Commit → List Change
writes_of commit = logged (map change_of commit.writes.items)

-- The answer for a session of `size` bytes: it is too large exactly above the limit, and the disk is then unchanged. After a
-- fault the disk reads what a crash may leave. After want of memory it is unchanged, or reads what a crash may leave.
abbrev pub CreateTold : {D : Type 0} → ℕ → D → D → State → State → Result Hold CreateFault → Type 0
CreateTold size old new before now (Ok journal) = size ≤ PAYLOAD_LIMIT
CreateTold size old new before now (Err (creating.TooLarge bytes)) = (bytes ≡ size) × (PAYLOAD_LIMIT < size) × (new ≡ old)
CreateTold size old new before now (Err creating.DiskFault) = (size ≤ PAYLOAD_LIMIT) × HasFailed before now × IsLeft now now.bytes
CreateTold size old new before now (Err creating.Memory) = (new ≡ old) ⊎ IsLeft now now.bytes

-- The answer for a commit of `size` bytes: it is too large exactly above the limit, and the journal and the disk are then
-- unchanged. A fault comes only if the disk's count of faults rose; the disk then reads what a crash may leave.
abbrev pub AppendTold : {D : Type 0} → Hold → ℕ → D → D → State → State → Result Hold AppendFault → Type 0
AppendTold journal size old new before now (Ok next) = size ≤ PAYLOAD_LIMIT
AppendTold journal size old new before now (Err (appending.TooLarge same bytes)) = (same ≡ journal) × (bytes ≡ size) × (PAYLOAD_LIMIT < size) × (new ≡ old)
AppendTold journal size old new before now (Err appending.DiskFault) = (size ≤ PAYLOAD_LIMIT) × HasFailed before now × IsLeft now now.bytes
AppendTold journal size old new before now (Err appending.DiskMemory) = (size ≤ PAYLOAD_LIMIT) × IsLeft now now.bytes
AppendTold journal size old new before now (Err (appending.Memory same)) = (same ≡ journal) × (new ≡ old)

-- The answer of an append of commit n to a journal, by the answer of the roll.
abbrev pub answer_of : Hold → ℕ → Result RollHold RollFault → Result Hold AppendFault
answer_of journal n (Ok roll) = Ok record { gate = roll.gate; commits = n }
answer_of journal n (Err (rolling.TooLarge roll bytes)) = Err (appending.TooLarge journal bytes)
answer_of journal n (Err rolling.DiskFault) = Err appending.DiskFault
answer_of journal n (Err rolling.DiskMemory) = Err appending.DiskMemory
answer_of journal n (Err (rolling.Memory roll)) = Err (appending.Memory journal)

-- the `Hold` is that of the journal that the bytes are, and D is the repository of the session with its commits
pub record IsHeld (bytes : List ℕ) (s : SessionData) (hold : Hold) (D : List Fact) : Type 0 where
  pub commits : List (List Change)
  pub journal : IsJournal s commits bytes
  pub gate : hold.gate ≡ gate_of s commits
  pub count : hold.commits ≡ length commits
  pub repository : D ≡ repository_of s commits

-- why bytes were not read
abbrev pub FaultTold : List ℕ → RecoverFault → Type 0
FaultTold bytes recovering.DiskFault = ⊥
FaultTold bytes (recovering.Damaged place) = IsDamagedAt bytes place
FaultTold bytes recovering.Memory = Unit {0}

-- what was recovered is what the bytes stand for
pub record IsRecovered (bytes : List ℕ) (r : Recovered) : Type 0 where
  pub commits : List (List Change)
  pub journal : IsJournal (session_of r.session) commits bytes
  pub count : r.commits ≡ length commits
  pub gate : r.journal.gate ≡ gate_of (session_of r.session) commits
  pub hold : r.journal.commits ≡ length commits
  pub repository : map fact_of r.repository.items ≡ repository_of (session_of r.session) commits

-- bytes are reported as damaged exactly if they do not begin with a journal
abbrev pub ReadTold : List ℕ → Result Recovered RecoverFault → Type 0
ReadTold bytes (Ok r) = IsRecovered bytes r
ReadTold bytes (Err fault) = FaultTold bytes fault

-- a fault comes only if the disk has failed
abbrev pub RecoverTold : State → State → Result Recovered RecoverFault → Type 0
RecoverTold before now (Ok r) = IsRecovered before.bytes r
RecoverTold before now (Err recovering.DiskFault) = HasFailed before now
RecoverTold before now (Err (recovering.Damaged place)) = IsDamagedAt before.bytes place
RecoverTold before now (Err recovering.Memory) = Unit {0}
