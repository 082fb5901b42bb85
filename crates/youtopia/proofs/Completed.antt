-- Where nothing fails, a call has the status that is due.
use Rattle.std.proofs.Common.{◌≡◌, ◌⊎◌, ◌∙◌, ℕ, List, inl, inr, ap, sym, subst}
use Rattle.clap.specs.Words.{Text as Letters}
use Rattle.cmd_frame.specs.Devices.{Change, no_input}
use Rattle.cmd_frame.specs.Outputs.{OutputView}
use Rattle.cmd_frame.specs.Rows.{Row}
use Rattle.cmd_frame.specs.Statuses.{status_of}
use Rattle.cmd_frame.specs.declared.statuses.Status.{Status}
use Rattle.cmd_frame.specs.declared.statuses.Status.TheVariants.{OutOfMemory}
use Rattle.cmd_words.specs.Alike.{AskTheSame}
use Rattle.cmd_words.specs.declared.names.CommandName.{CommandName}
use Rattle.cmd_words.specs.declared.names.CommandName.TheVariants.{Run, Ask, Explain, Drill}
use Rattle.cmd_words.specs.declared.reading.Options.{Options}
use Rattle.cmd_words.specs.declared.reading.Request.{Request}
use Rattle.cmd_words.specs.declared.reading.Request.TheVariants.{Command, Help, Version}
use Rattle.youtopia.proofs.Alike.{same_makes}
use Rattle.youtopia.proofs.Asked.{NeverBoth, OneThing, StatusLaws, done}
use Rattle.youtopia.proofs.Due.{complete}
use Rattle.youtopia.proofs.Statuses.{one_status}
use Rattle.youtopia.specs.Calls.{Calls, Does, Performs, makes, telling}
use Rattle.youtopia.specs.Promises.{Completes, HasQuery, NothingFails, due, read_by, read_for}

query_in : (k : CommandName) (p : Options) (input : List ℕ) (x : OutputView) → makes k p input x → HasQuery k p
query_in Ask p input x made = (made.0, made.1)
query_in Explain p input x made = (made.0, made.1)
query_in Run p input x made = tt
query_in _ p input x made = tt

-- what is done by words that have what their command needs is the row of its status
pub row_done : (k : CommandName) (p : Options) (status : Status) (source out err : Change) → HasQuery k p
    → Does k p status source out err → Row status (makes k p) (read_for k source) out err
row_done Ask p status source out err has (inl refused) = absurd (refused.1 has.0 has.1)
row_done Ask p status source out err has (inr row) = row.0
row_done Explain p status source out err has (inl refused) = absurd (refused.1 has.0 has.1)
row_done Explain p status source out err has (inr row) = row.0
row_done Drill p status source out err has did = did.0
row_done Run p status source out err has row = row
row_done _ p status source out err has row = row

by_row : StatusLaws → (k : CommandName) (p : Options) (status : Status) (source out err : Change) (input : List ℕ) (x : OutputView)
    → makes k p input x → Row status (makes k p) source out err → NothingFails input source out → (status ≡ status_of x) ⊎ (status ≡ OutOfMemory)
by_row laws k p status source out err input x made row fine =
    complete status (makes k p) source out err row input (status_of x) fine.held fine.short
    (λ y it. one_status laws k p input y x it made) fine.reads fine.writes

by_telling : (text : List ℕ) (status : Status) (out err : Change) (input : List ℕ) (x : OutputView) → telling text input x
    → Row status (telling text) no_input out err → NothingFails input no_input out → (status ≡ status_of x) ⊎ (status ≡ OutOfMemory)
by_telling text status out err input x told row fine =
    complete status (telling text) no_input out err row input (status_of x) fine.held fine.short
    (λ y it. ap status_of (it ∙ sym told)) fine.reads fine.writes

by_done : StatusLaws → (words : List Letters) (status : Status) (source out err : Change) (request : Request) (input : List ℕ) (x : OutputView)
    → due request input x → NothingFails input (read_by request source) out → (other : Request) → AskTheSame request other
    → Performs other status source out err → (status ≡ status_of x) ⊎ (status ≡ OutOfMemory)
by_done laws words status source out err (Command o) input x made fine (Command p) same did =
    let it = subst (λ (k : CommandName). makes k p input x) same.command (same_makes o.command o p input x same made) in
    by_row laws p.command p status (read_for p.command source) out err input x it
    (row_done p.command p status source out err (query_in p.command p input x it) did)
    (subst (λ (k : CommandName). NothingFails input (read_for k source) out) same.command fine)
by_done laws words status source out err (Command o) input x made fine Help same did = absurd same
by_done laws words status source out err (Command o) input x made fine Version same did = absurd same
by_done laws words status source out err Help input x told fine Help same did = by_telling _ status out err input x told did.0 fine
by_done laws words status source out err Help input x told fine (Command p) same did = absurd same
by_done laws words status source out err Help input x told fine Version same did = absurd same
by_done laws words status source out err Version input x told fine Version same did = by_telling _ status out err input x told did.0 fine
by_done laws words status source out err Version input x told fine (Command p) same did = absurd same
by_done laws words status source out err Version input x told fine Help same did = absurd same

pub completes : NeverBoth → OneThing → StatusLaws → (words : List Letters) (status : Status) (source out err : Change) → Calls words status source out err
    → Completes words status source out
completes never one laws words status source out err calls = λ request input x asks made fine.
    elim (done never one words status source out err request asks calls) [
      | inl wanting ↦ inr wanting
      | inr did ↦ by_done laws words status source out err request input x made fine did.0 did.1 did.3
    ]
