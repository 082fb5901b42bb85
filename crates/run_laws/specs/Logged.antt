-- What goes into the journal of a session, and what the serial machine leaves after some of the updates.
use Rattle.std.specs.Prelude.{◌≡◌, ℕ, ◌≤◌, List, [], map, take}
use Rattle.std.specs.List.{AllByRecursion}
use Rattle.def_chase.specs.Values.{Fact}
use Rattle.def_chase.specs.Repository.{Change}
use Rattle.base_types.specs.Contents.{facts_of}
use Rattle.def_steps.specs.Serial.{serial_result}
use Rattle.def_language.specs.Checks.{rules_of}
use Rattle.def_language.specs.Sessions.{RelationSchema, SessionData, initial_mappings}
use Rattle.def_language.specs.Validity.{IsSession}
use Rattle.lang_session.specs.Meanings.{requests_in}
use Rattle.run_serial.specs.Trails.{trails_by}
use Rattle.run_journal.specs.Answers.{IsRecovered}
use Rattle.run_journal.specs.Format.{IsWrite, journal_text, logged}
use Rattle.run_journal.specs.Journals.{IsJournal, repository_of}
use Rattle.run_journal.specs.declared.journals.Recovered.{Recovered}

-- What a session begins with: its relations, the mappings that no update adds, and its base.
abbrev pub opening_of : SessionData → SessionData
opening_of s = record { format = s.format; relations = s.relations; mappings = initial_mappings s.mappings; base = s.base; updates = [] }

-- Trails as commits: the logged form of each write.
abbrev pub commits_of : List (List Change) → List (List Change)
commits_of trails = map logged trails

-- The journal of the beginning of a session and these trails.
abbrev pub journal_of : SessionData → List (List Change) → List ℕ
journal_of s trails = journal_text (opening_of s) (commits_of trails)

-- A valid session, and a budget for its updates.
pub record IsRun (steps : ℕ) (s : SessionData) : Type 0 where
  pub session : IsSession s
  pub some : 1 ≤ steps
  pub most : steps ≤ 1000001

-- The repository that the serial machine leaves after the first k updates, as it is reported.
abbrev pub left_after : ℕ → ℕ → SessionData → List Fact
left_after k steps s = (serial_result (rules_of s.mappings) steps s.base (take k (requests_in s))).repository

-- All logged writes are of tuples of the relations.
abbrev pub AreLogged : List RelationSchema → List (List Change) → Type 0
AreLogged relations commits = AllByRecursion (AllByRecursion (IsWrite relations)) commits

-- The first k commits of the run make of the base what the serial machine leaves after the first k updates.
abbrev pub StandFor : ℕ → ℕ → SessionData → Type 0
StandFor k steps s = repository_of (opening_of s) (take k (commits_of (trails_by steps s))) ≡ left_after k steps s

-- The journal with the first k commits of the run recovers to what the serial machine leaves after the first k updates.
abbrev pub RecoversAfter : ℕ → ℕ → SessionData → Type 0
RecoversAfter k steps s =
    (bytes : List ℕ) (r : Recovered) → IsJournal (opening_of s) (take k (commits_of (trails_by steps s))) bytes → IsRecovered bytes r
    → facts_of r.repository ≡ left_after k steps s
