-- The format of a journal: the frame of a session, and a roll of its commits after it.
use Rattle.std.specs.Prelude.{◌≡◌, ℕ, ◌+◌, ◌<◌, ◌^◌, ◌==◌, List, [], ◌∷◌, ◌++◌, length, flat_map, codes, false, if◌then◌else◌}
use Rattle.std.specs.Fmt.{decimal}
use Rattle.std.specs.List.{AllByRecursion}
use Rattle.base_roll.specs.Format as rolls
use Rattle.base_roll.specs.Format.{framed}
use Rattle.def_chase.specs.Values.{outer}
use Rattle.def_chase.specs.Mappings.{force_relation}
use Rattle.def_chase.specs.Repository.{Change, Insert, Delete}
use Rattle.def_language.specs.Lone.{IsTuple}
use Rattle.def_language.specs.Printing.{printed, tuple_text}
use Rattle.def_language.specs.Sessions.{RelationSchema, SessionData}
use Rattle.def_language.specs.Validity.{IsSession}

-- ---- texts

-- a write: +FACT or -FACT
abbrev pub write_text : List RelationSchema → Change → List ℕ
write_text relations (Insert t) = 43 ∷ tuple_text relations false t
write_text relations (Delete t) = 45 ∷ tuple_text relations false t

-- writes, each on a line
abbrev pub write_lines : List RelationSchema → List Change → List ℕ
write_lines relations writes = flat_map (λ w. write_text relations w ++ 10 ∷ []) writes

-- commit N
unfoldable pub commit_line : ℕ → List ℕ
commit_line n = codes "commit " ++ (decimal n ++ 10 ∷ [])

-- a commit: its number, and its writes in order
abbrev pub commit_text : List RelationSchema → ℕ → List Change → List ℕ
commit_text relations n writes = commit_line n ++ write_lines relations writes

-- the texts of commits, the first of them number n
abbrev pub texts : List RelationSchema → ℕ → List (List Change) → List (List ℕ)
texts relations n [] = []
texts relations n (writes ∷ commits) = commit_text relations n writes ∷ texts relations (n + 1) commits

-- the bytes before the gate of a journal: its session, and its commits from number 1 on
abbrev pub front : SessionData → List (List Change) → List ℕ
front s commits = rolls.front (framed (printed s)) (texts s.relations 1 commits)

-- a journal with nothing after its gate
abbrev pub journal_text : SessionData → List (List Change) → List ℕ
journal_text s commits = rolls.roll_text (framed (printed s)) (texts s.relations 1 commits)

-- ---- what may stand in a journal

-- the session of a journal: it has no updates, and its printed form fits a length of 4 bytes
pub record IsOpening (s : SessionData) : Type 0 where
  pub session : IsSession s
  pub no_updates : s.updates ≡ []
  pub short : length (printed s) < 2 ^ 32

-- a write of a tuple of the relations; its nulls may be of any updates
abbrev pub IsWrite : List RelationSchema → Change → Type 0
IsWrite relations (Insert t) = IsTuple relations t
IsWrite relations (Delete t) = IsTuple relations t

-- commit n: the number and the length of its text fit 4 bytes
pub record IsCommit (relations : List RelationSchema) (n : ℕ) (all : List Change) : Type 0 where
  pub number : n < 2 ^ 32
  pub writes : AllByRecursion (IsWrite relations) all
  pub short : length (commit_text relations n all) < 2 ^ 32

-- these are commits, the first of them with number n
abbrev pub AreCommits : List RelationSchema → ℕ → List (List Change) → Type 0
AreCommits relations n [] = Unit {0}
AreCommits relations n (writes ∷ commits) = IsCommit relations n writes × AreCommits relations (n + 1) commits

-- ---- what is logged of an update

-- the write of a tuple in its outer form; one that says which mapping is in force is left out
abbrev pub logged_one : Change → List Change
logged_one (Insert t) = if t.relation == force_relation then [] else Insert (outer t) ∷ []
logged_one (Delete t) = if t.relation == force_relation then [] else Delete (outer t) ∷ []

abbrev pub logged : List Change → List Change
logged writes = flat_map logged_one writes
