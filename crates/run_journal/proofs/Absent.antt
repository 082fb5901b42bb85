-- What bytes that are not read as a session or a commit can't begin with.
use Rattle.std.proofs.Common.{◌≡◌, ℕ, ◌<◌, ◌^◌, ap, refl, ◌∙◌, sym, List, ◌++◌, length, true, false}
use Rattle.std.specs.List.{AllByRecursion}
use Rattle.std.proofs.lemmas.Bool.{both_ways}
use Rattle.std.proofs.lemmas.List.{append_cancel_left}
use Rattle.def_chase.specs.Repository.{Change}
use Rattle.def_language.specs.Layout.{laid_out}
use Rattle.def_language.specs.Printing.{printed}
use Rattle.def_language.specs.Sessions.{RelationSchema, SessionData}
use Rattle.run_journal.specs.Damage.{HasNoCommit, HasNoOpening}
use Rattle.base_roll.specs.Format.{framed}
use Rattle.run_journal.specs.Format.{commit_line, commit_text, write_lines, IsWrite, IsOpening}
use Rattle.run_journal.specs.Taken.{begins_header}
use Rattle.base_roll.proofs.Frames.{frames_apart}

header_begins : (s : SessionData) → begins_header (printed s) ≡ true
unfolding laid_out
header_begins s = refl

pub no_header : (payload : List ℕ) → begins_header payload ≡ false → (s : SessionData) → payload ≡ printed s → ⊥
no_header payload other s e = both_ways (begins_header payload) other (ap begins_header e ∙ header_begins s)

pub no_writes_after : (relations : List RelationSchema) (n : ℕ) (payload head text : List ℕ) → payload ≡ head ++ text → head ≡ commit_line n → ((ws : List Change) → AllByRecursion (IsWrite relations) ws → text ≡ write_lines relations ws → ⊥)
    → (ws : List Change) → AllByRecursion (IsWrite relations) ws → payload ≡ commit_text relations n ws → ⊥
no_writes_after relations n payload head text split first never ws good e =
    never ws good (append_cancel_left head text (write_lines relations ws) (sym split ∙ e ∙ ap (λ xs. xs ++ write_lines relations ws) (sym first)))

pub no_commit_there : (relations : List RelationSchema) (n : ℕ) (bytes payload rest : List ℕ) → bytes ≡ framed payload ++ rest → length payload < 2 ^ 32
    → ((ws : List Change) → AllByRecursion (IsWrite relations) ws → payload ≡ commit_text relations n ws → ⊥) → HasNoCommit relations n bytes
no_commit_there relations n bytes payload rest split small never writes more one e =
    never writes one.writes (frames_apart payload (commit_text relations n writes) rest more small one.short (sym split ∙ e)).0

pub no_opening_there : (bytes payload rest : List ℕ) → bytes ≡ framed payload ++ rest → length payload < 2 ^ 32
    → ((s : SessionData) → IsOpening s → payload ≡ printed s → ⊥) → HasNoOpening bytes
no_opening_there bytes payload rest split small never s more opening e =
    never s opening (frames_apart payload (printed s) rest more small opening.short (sym split ∙ e)).0
