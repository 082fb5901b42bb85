-- What `drill` writes.
use Rattle.std.proofs.Common.{◌≡◌, ◌∙◌, ◌≤◌, ◌⊎◌, ℕ, List, [], inl, inr, refl, ap, sym, subst, arith}
use Rattle.clap.specs.Words.{Text as Letters}
use Rattle.cmd_frame.specs.Devices.{Change, Fails, Takes, no_input}
use Rattle.cmd_frame.specs.Outputs.{OutputView, Text}
use Rattle.cmd_frame.specs.Rows.{Row, Ends}
use Rattle.cmd_frame.specs.Statuses.{status_of, status_of_ending}
use Rattle.cmd_frame.specs.declared.outputs.Ending.{Ending}
use Rattle.cmd_frame.specs.declared.outputs.Ending.TheVariants.{Ended, Stuck, Refuted}
use Rattle.cmd_frame.specs.declared.performing.TheConstants.{INPUT_LIMIT}
use Rattle.cmd_frame.specs.declared.statuses.Status.{Status}
use Rattle.cmd_frame.specs.declared.statuses.Status.TheVariants.{OutOfMemory}
use Rattle.cmd_plain.specs.Runs.{ending_by}
use Rattle.cmd_threads.specs.Drilling.{drill_told, drilling, summary_output}
use Rattle.run_drill.specs.Summaries.{summary_text}
use Rattle.cmd_words.specs.Alike.{AskTheSame}
use Rattle.cmd_words.specs.declared.names.CommandName.{CommandName}
use Rattle.cmd_words.specs.declared.names.CommandName.TheVariants.{Drill}
use Rattle.cmd_words.specs.declared.reading.Options.{Options}
use Rattle.cmd_words.specs.declared.reading.Request.{Request}
use Rattle.cmd_words.specs.declared.reading.Request.TheVariants.{Command, Help, Version}
use Rattle.youtopia.proofs.Alike.{drill_back}
use Rattle.youtopia.proofs.Asked.{NeverBoth, OneThing, done}
use Rattle.youtopia.proofs.Due.{complete}
use Rattle.youtopia.specs.Calls.{Calls, Does, Performs}
use Rattle.youtopia.specs.Promises.{Drills, WritesSummary}

one_text : (e f : Ending) (t u : List ℕ) → Text e t ≡ Text f u → t ≡ u
one_text e f t u is = cc

-- a command that makes this text, and ended so, has written it
ended : (e f : Ending) (t : List ℕ) (source out err : Change) → Ends f (λ input output. output ≡ Text e t) source out err → Takes out t
ended e f t source out err row =
    let made = row.0.4 in
    subst (λ (l : List ℕ). Takes out l) (one_text f e made.0 t made.1) made.2

taken_by : (e : Ending) (t : List ℕ) (source out err : Change) → Row (status_of_ending e) (λ input output. output ≡ Text e t) source out err → Takes out t
taken_by Ended t source out err row = ended Ended Ended t source out err row
taken_by Stuck t source out err row = ended Stuck Stuck t source out err row
taken_by Refuted t source out err row = ended Refuted Refuted t source out err row

-- no input fails, and none is too long
one_above : 1 ≤ 0 → ⊥
one_above is = omega (arith, is)

no_fault : Fails no_input → ⊥
no_fault rose = one_above rose

no_length : 0 ≤ INPUT_LIMIT
no_length = omega arith

-- a performed drill that ended as is due has written the summary
summary_taken : (steps count seed : ℕ) (out err : Change) → Row (status_of_ending (ending_by (drill_told steps count seed).stop)) (drilling steps count seed) no_input out err
    → Takes out (summary_text count seed (drill_told steps count seed))
unfolding drilling summary_output
summary_taken steps count seed out err row =
    taken_by (ending_by (drill_told steps count seed).stop) (summary_text count seed (drill_told steps count seed)) no_input out err row

-- it has the one status that is due
due_of : (steps count seed : ℕ) (input : List ℕ) (x : OutputView) → drilling steps count seed input x
    → status_of x ≡ status_of_ending (ending_by (drill_told steps count seed).stop)
unfolding drilling summary_output
due_of steps count seed input x is = ap status_of is

written : (o : Options) (status : Status) (out err : Change) → status ≡ status_of_ending (ending_by (drill_told o.steps o.count o.seed).stop)
    → Row status (drilling o.steps o.count o.seed) no_input out err → WritesSummary o status out
written o status out err ends row =
    record {
      taken = summary_taken o.steps o.count o.seed out err (subst (λ (k : Status). Row k (drilling o.steps o.count o.seed) no_input out err) ends row);
      ending = ends;
    }

by_row : (o : Options) (status : Status) (out err : Change) → (Fails out → ⊥) → Row status (drilling o.steps o.count o.seed) no_input out err
    → WritesSummary o status out ⊎ (status ≡ OutOfMemory)
by_row o status out err writes row =
    elim (complete status (drilling o.steps o.count o.seed) no_input out err row [] (status_of_ending (ending_by (drill_told o.steps o.count o.seed).stop)) refl
    no_length (λ y it. due_of o.steps o.count o.seed [] y it) no_fault writes) [
      | inl is ↦ inl (written o status out err is row)
      | inr wanting ↦ inr wanting
    ]

by_done : (o : Options) (status : Status) (source out err : Change) → o.command ≡ Drill → (Fails out → ⊥) → (other : Request) → AskTheSame (Command o) other
    → Performs other status source out err → WritesSummary o status out ⊎ (status ≡ OutOfMemory)
by_done o status source out err drill writes (Command p) same did =
    let its : Does Drill p status source out err = subst (λ (k : CommandName). Does k p status source out err) (sym same.command ∙ drill) did in
    by_row o status out err writes (drill_back (λ n count seed. Row status (drilling n count seed) no_input out err) o p same its.0)
by_done o status source out err drill writes Help same did = absurd same
by_done o status source out err drill writes Version same did = absurd same

pub drills : NeverBoth → OneThing → (words : List Letters) (status : Status) (source out err : Change) → Calls words status source out err
    → Drills words status out
drills never one words status source out err calls = λ options asks drill writes.
    elim (done never one words status source out err (Command options) asks calls) [
      | inl wanting ↦ inr wanting
      | inr did ↦ by_done options status source out err drill writes did.0 did.1 did.3
    ]
