-- What the commands on journals make of their inputs: `journal` writes one, `recover` reads one.
use Rattle.std.specs.Prelude.{◌≡◌, ◌⊎◌, ℕ, false, List, [], ◌∷◌, ◌++◌, length, flat_map, codes, nat_lt, Bool, true, if◌then◌else◌}
use Rattle.std.specs.Fmt.{decimal}
use Rattle.def_chase.specs.Repository.{Change}
use Rattle.def_chase.specs.Values.{Fact}
use Rattle.cmd_frame.specs.Outputs.{Meaning, OutputView, Text, Refused}
use Rattle.cmd_frame.specs.declared.outputs.Ending.TheVariants.{Ended}
use Rattle.cmd_frame.specs.declared.outputs.Refusal.TheVariants.{TooLarge, Damaged}
use Rattle.def_language.specs.Checks.{rules_of}
use Rattle.def_language.specs.Printing.{tuple_text}
use Rattle.def_language.specs.Sessions.{RelationSchema, SessionData}
use Rattle.run_journal.specs.Damage.{IsDamagedAt}
use Rattle.base_devices.specs.InMemory.{MemState, bytes_of, state_of}
use Rattle.run_journal.specs.Format.{journal_text}
use Rattle.run_journal.specs.Journals.{Hold, IsAt, IsJournal, repository_of}
use Rattle.run_laws.specs.Logged.{journal_of}
use Rattle.run_serial.specs.Trails.{TrailsTold, serial_trailed}
use Rattle.lang_session.specs.Base.{base_violation}
use Rattle.lang_session.specs.Meanings.{requests_in}
use Rattle.cmd_plain.specs.Commands.{unless_violated}
use Rattle.cmd_plain.specs.Runs.{ending_by, too_large_line}

-- ---- `journal`

-- more bytes than an input may have
abbrev pub is_too_long : List ℕ → Bool
is_too_long text = nat_lt 16777216 (length text)

-- the journal of what a run leaves, unless it is too long
abbrev pub journal_output : SessionData → TrailsTold → OutputView
journal_output s left =
    if is_too_long (journal_of s left.trails) then Refused TooLarge too_large_line else Text (ending_by left.stop) (journal_of s left.trails)

-- what the serial machine leaves of a session, with `steps` steps for each update
abbrev pub left_of : ℕ → SessionData → TrailsTold
left_of steps s = serial_trailed (rules_of s.mappings) steps s.base (requests_in s)

-- `journal` with `steps` steps for each update: the journal of what the run leaves, if the base meets the mappings
abbrev pub journaled : ℕ → SessionData → OutputView
journaled steps s = unless_violated s (journal_output s (left_of steps s)) (base_violation s)

-- ---- `recover`

-- tuples, each on a line
abbrev pub tuple_lines : List RelationSchema → List Fact → List ℕ
tuple_lines relations facts = flat_map (λ t. tuple_text relations false t ++ 10 ∷ []) facts

-- commits N
abbrev pub commits_line : ℕ → List ℕ
commits_line n = codes "commits " ++ (decimal n ++ 10 ∷ [])

-- repository T
abbrev pub repository_line : ℕ → List ℕ
repository_line n = codes "repository " ++ (decimal n ++ 10 ∷ [])

-- the number of commits, the number of tuples, and the tuples in order
abbrev pub recovered_text : ℕ → List RelationSchema → List Fact → List ℕ
recovered_text commits relations facts = (commits_line commits ++ repository_line (length facts)) ++ tuple_lines relations facts

-- the line that says where the bytes are damaged
abbrev pub damaged_line : ℕ → List ℕ
damaged_line place = codes "youtopia: journal damaged at " ++ (decimal place ++ 10 ∷ [])

-- the output for a journal: its number of commits, and the repository that they leave
abbrev pub RecoversWhole : List ℕ → OutputView → Type 0
RecoversWhole input output =
    (s : SessionData) × (commits : List (List Change)) × IsJournal s commits input × (output ≡ Text Ended (recovered_text (length commits) s.relations (repository_of s commits)))

-- the output for bytes that do not begin with a journal
abbrev pub RefusesDamaged : List ℕ → OutputView → Type 0
RefusesDamaged input output = (place : ℕ) × IsDamagedAt input place × (output ≡ Refused Damaged (damaged_line place))

-- `recover`: what the journal at the front of the input stands for, or where the input is damaged
abbrev pub recovering : Meaning
recovering input output = RecoversWhole input output ⊎ RefusesDamaged input output

-- ---- a journal in the making

-- The disk in memory has the whole journal of the session with these commits and nothing else, and no call of it fails.
pub record HasJournal (disk : MemState) (s : SessionData) (commits : List (List Change)) (hold : Hold) : Type 0 where
  pub at : IsAt (state_of disk) s commits hold
  pub text : bytes_of disk ≡ journal_text s commits
  pub reliable : (state_of disk).reliable ≡ true

-- One commit more is on the disk.
abbrev pub HasOneMore : MemState → MemState → SessionData → List Change → Hold → Hold → Type 0
HasOneMore old new s writes before after =
    (commits : List (List Change)) → HasJournal old s commits before → HasJournal new s (commits ++ writes ∷ []) after

-- With one commit more the journal is too long.
abbrev pub IsOneTooMany : MemState → SessionData → List Change → Hold → Type 0
IsOneTooMany old s writes before =
    (commits : List (List Change)) → HasJournal old s commits before → is_too_long (journal_text s (commits ++ writes ∷ [])) ≡ true
