-- Where bytes that do not begin with a journal are damaged.
use Rattle.std.specs.Prelude.{◌≡◌, ℕ, ◌+◌, ◌⊎◌, List, [], ◌∷◌, ◌++◌, length}
use Rattle.def_chase.specs.Repository.{Change}
use Rattle.def_language.specs.Printing.{printed}
use Rattle.def_language.specs.Sessions.{RelationSchema, SessionData}
use Rattle.base_roll.specs.Format.{framed}
use Rattle.run_journal.specs.Format.{commit_text, IsOpening, IsCommit}
use Rattle.run_journal.specs.Journals.{BeginsWith, gate_of}

-- the bytes do not begin with the session of a journal
abbrev pub HasNoOpening : List ℕ → Type 0
HasNoOpening bytes = (s : SessionData) (rest : List ℕ) → IsOpening s → bytes ≡ framed (printed s) ++ rest → ⊥

-- the bytes do not begin with the whole commit n
abbrev pub HasNoCommit : List RelationSchema → ℕ → List ℕ → Type 0
HasNoCommit relations n bytes = (writes : List Change) (rest : List ℕ) → IsCommit relations n writes
    → bytes ≡ framed (commit_text relations n writes) ++ rest → ⊥

-- the gate is missing, or it is open and commit n does not stand after it
abbrev pub IsBroken : List RelationSchema → ℕ → List ℕ → Type 0
IsBroken relations n rest = (rest ≡ []) ⊎ ((tail : List ℕ) × (rest ≡ 1 ∷ tail) × HasNoCommit relations n tail)

-- the bytes are damaged after whole commits, at the next gate
pub record BreaksAt (bytes : List ℕ) (gate : ℕ) : Type 0 where
  pub session : SessionData
  pub commits : List (List Change)
  pub rest : List ℕ
  pub begins : BeginsWith bytes session commits rest
  pub place : gate ≡ gate_of session commits
  pub broken : IsBroken session.relations (length commits + 1) rest

-- The bytes are damaged at the place. That is 0 if they have no session; else the place of the gate that is missing, or of the
-- gate of the first record that is not whole or no commit.
abbrev pub IsDamagedAt : List ℕ → ℕ → Type 0
IsDamagedAt bytes place = ((place ≡ 0) × HasNoOpening bytes) ⊎ BreaksAt bytes place

-- the bytes are damaged at some place
abbrev pub IsDamaged : List ℕ → Type 0
IsDamaged bytes = (place : ℕ) × IsDamagedAt bytes place
