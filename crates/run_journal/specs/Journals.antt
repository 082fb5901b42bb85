-- Which bytes are a journal, and what they stand for.
use Rattle.std.specs.Prelude.{◌≡◌, ℕ, List, [], ◌∷◌, ◌++◌, length}
use Rattle.base_devices.specs.States.{State, IsSettled}
use Rattle.def_chase.specs.Values.{Fact}
use Rattle.def_chase.specs.Repository.{Change, apply}
use Rattle.def_language.specs.Sessions.{SessionData}
use Rattle.base_roll.specs.Rolls.{IsClosed}
use Rattle.run_journal.specs.Format.{front, IsOpening, AreCommits}

-- the bytes begin with the session and these commits, and `rest` comes after them
pub record BeginsWith (all : List ℕ) (s : SessionData) (those : List (List Change)) (rest : List ℕ) : Type 0 where
  pub opening : IsOpening s
  pub commits : AreCommits s.relations 1 those
  pub bytes : all ≡ front s those ++ rest

-- The bytes are a journal of the session with these commits: a closed gate stands after them.
abbrev pub IsJournal : SessionData → List (List Change) → List ℕ → Type 0
IsJournal s commits bytes = (rest : List ℕ) × BeginsWith bytes s commits rest × IsClosed rest

-- the bytes are a journal of some session with some commits
abbrev pub IsWhole : List ℕ → Type 0
IsWhole bytes = (s : SessionData) × (commits : List (List Change)) × IsJournal s commits bytes

-- the place of the gate of a journal of the session with these commits
abbrev pub gate_of : SessionData → List (List Change) → ℕ
gate_of s commits = length (front s commits)

-- what is kept of a journal: the place of its gate, and how many commits stand before it
pub record Hold : Type 0 where
  pub gate : ℕ
  pub commits : ℕ

-- The `Hold` is that of the journal on the disk: the journal is there whole, and nothing is pending.
pub record IsAt (disk : State) (s : SessionData) (commits : List (List Change)) (hold : Hold) : Type 0 where
  pub journal : IsJournal s commits disk.bytes
  pub settled : IsSettled disk
  pub gate : hold.gate ≡ gate_of s commits
  pub count : hold.commits ≡ length commits

-- the repository after commits, in order
abbrev pub after_commits : List Fact → List (List Change) → List Fact
after_commits D [] = D
after_commits D (writes ∷ commits) = after_commits (apply D writes) commits

-- what a journal stands for: the base of its session after its commits
abbrev pub repository_of : SessionData → List (List Change) → List Fact
repository_of s commits = after_commits s.base commits

-- the `Hold` is that of a journal on the disk with some commits
abbrev pub IsInHand : State → SessionData → Hold → Type 0
IsInHand disk s hold = (commits : List (List Change)) × IsAt disk s commits hold
