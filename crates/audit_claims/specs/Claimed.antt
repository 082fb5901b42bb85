-- What a printed entry claims.
use Rattle.std.specs.Prelude.{◌≡◌, ◌≤◌, ◌<◌, ◌^◌, ℕ, List, Some, IsUtf8}
use Rattle.std.specs.List.{AllByRecursion}
use Rattle.json.specs.Print.{print}
use Rattle.json.specs.Tree.{json_tokens}
use Rattle.def_language.specs.Sessions.{RelationSchema}
use Rattle.def_language.specs.Statements.{WrittenChoice}
use Rattle.def_history.specs.PlainEntries.{PlainCause, InConflict, Dependent, PlainEntry, WasAdmitted, WasStepped, WasDelivered, WasAnswered, WasWithdrawn}
use Rattle.def_chase.specs.Repository.{Change}
use Rattle.def_chase.specs.Updates.{Choice}
use Rattle.audit_claims.specs.Choices.{SpellsChoice, known_choice}
use Rattle.audit_claims.specs.Told.{Told, Admission, Step, Delivery, Answer, Withdrawal, update_told}
use Rattle.audit_trace.specs.Traces.{choice_text, entry_json, write_text}

-- The event of an entry.
abbrev pub told_by : PlainEntry → Told
told_by (WasAdmitted u) = Admission u
told_by (WasStepped e) = Step e.update
told_by (WasDelivered e) = Delivery e.update
told_by (WasAnswered e) = Answer e.update e.choice
told_by (WasWithdrawn e) = Withdrawal e.update

-- The line of an entry, without its line feed.
abbrev pub entry_text : List RelationSchema → PlainEntry → List ℕ
entry_text relations e = print (json_tokens (entry_json relations e))

-- ---- what the parts of an entry have to meet

-- The number has at most 64 bits.
abbrev pub IsWord : ℕ → Type 0
IsWord n = n < 2 ^ 64

abbrev pub HasWords : PlainCause → Type 0
HasWords (InConflict c) = IsWord c.reader × IsWord c.read × IsWord c.writer
HasWords (Dependent c) = IsWord c.reader × IsWord c.read × IsWord c.on

-- The printed tuple is UTF-8.
abbrev pub IsText : List RelationSchema → Change → Type 0
IsText relations w = IsUtf8 (write_text relations w)

-- The text of the choice is read as the choice.
pub record IsReadAgain (relations : List RelationSchema) (c : Choice) : Type 0 where
  pub written : WrittenChoice
  pub spelled : SpellsChoice (choice_text relations c) written
  pub known : known_choice relations written ≡ Some c

abbrev pub HasParts : List RelationSchema → PlainEntry → Type 0
HasParts relations (WasAdmitted u) = Unit {0}
HasParts relations (WasStepped e) = IsWord e.attempt × IsWord e.committed × AllByRecursion HasWords e.causes × AllByRecursion (IsText relations) e.writes
HasParts relations (WasDelivered e) = Unit {0}
HasParts relations (WasAnswered e) = IsReadAgain relations e.choice
HasParts relations (WasWithdrawn e) = IsWord e.committed × AllByRecursion HasWords e.causes

-- The entry is of one of the first 1,000 updates, its numbers have at most 64 bits, its texts are UTF-8, and its choice is read
-- again from its text.
pub record IsPrintable (relations : List RelationSchema) (e : PlainEntry) : Type 0 where
  pub least : 1 ≤ update_told (told_by e)
  pub most : update_told (told_by e) ≤ 1000
  pub parts : HasParts relations e
