-- The laws that are used, and what a call does, as what was asked for.
use Rattle.std.proofs.Common.{◌≡◌, ◌≤◌, ◌⊎◌, ℕ, Bool, true, false, List, Option, Some, IfSome, inl, inr, sym, subst}
use Rattle.clap.specs.Words.{Text as Letters}
use Rattle.cmd_frame.specs.Devices.{Change}
use Rattle.cmd_frame.specs.Outputs.{OutputView}
use Rattle.cmd_frame.specs.Rows.{Row}
use Rattle.cmd_frame.specs.Statuses.{status_of}
use Rattle.cmd_frame.specs.declared.statuses.Status.{Status}
use Rattle.cmd_frame.specs.declared.statuses.Status.TheVariants.{OutOfMemory}
use Rattle.cmd_plain.specs.Audited.{audited}
use Rattle.cmd_plain.specs.Commands.{on_session, on_session_by}
use Rattle.cmd_plain.specs.Journaled.{recovering}
use Rattle.cmd_plain.specs.Runs.{ran}
use Rattle.cmd_plain.specs.Written.{HasWritten, WroteWhatHolds}
use Rattle.def_machine.specs.Updates.{Settings}
use Rattle.cmd_threads.specs.Runs.{running}
use Rattle.cmd_threads.specs.Written.{WroteRun}
use Rattle.cmd_words.specs.Alike.{AskTheSame}
use Rattle.cmd_words.specs.Meaning.{Answers, is_refused}
use Rattle.cmd_words.specs.declared.reading.Request.{Request}
use Rattle.youtopia.specs.Calls.{Calls, Performs}

-- words that are answered are not refused, and ask for one thing
abbrev pub NeverBoth : Type 0
NeverBoth = (words : List Letters) (request : Request) → Answers words request → is_refused words ≡ false

abbrev pub OneThing : Type 0
OneThing = (words : List Letters) (one other : Request) → Answers words one → Answers words other → AskTheSame one other

-- what `serial` and `run` write
abbrev pub Held : Type 0
Held = (n : ℕ) (status : Status) (source out err : Change) → 1 ≤ n → n ≤ 1000001 → HasWritten status → Row status (on_session (ran n)) source out err
    → WroteWhatHolds n source out

abbrev pub RunHeld : Type 0
RunHeld = (trace : Bool) (n : ℕ) (c : Settings) (status : Status) (source out err : Change) → 1 ≤ n → n ≤ 1000001 → HasWritten status
    → Row status (on_session_by (running trace n c)) source out err → WroteRun trace n c source out

-- what is recovered has one status, and so has a run
abbrev pub OneRecovered : Type 0
OneRecovered = (input : List ℕ) (x y : OutputView) → recovering input x → recovering input y → status_of x ≡ status_of y

abbrev pub OneRun : Type 0
OneRun = (trace : Bool) (n : ℕ) (c : Settings) (input : List ℕ) (x y : OutputView) → on_session_by (running trace n c) input x → on_session (ran n) input y
    → status_of x ≡ status_of y

-- an audited input has one output
abbrev pub OneAudited : Type 0
OneAudited = (n : ℕ) (c : Settings) (input : List ℕ) (x y : OutputView) → audited n c input x → audited n c input y → x ≡ y

-- these laws together
pub record StatusLaws : Type 0 where
  pub recovered : OneRecovered
  pub runs : OneRun
  pub audited : OneAudited

-- the same request, with what was done
abbrev pub Done : Request → List Letters → Status → Change → Change → Change → Type 0
Done request words status source out err = (other : Request) × AskTheSame request other × Answers words other × Performs other status source out err

not_both : (b : Bool) → b ≡ true → b ≡ false → ⊥
not_both b is_true is_false = cc

pub done : NeverBoth → OneThing → (words : List Letters) (status : Status) (source out err : Change) (request : Request) → Answers words request
    → Calls words status source out err → (status ≡ OutOfMemory) ⊎ Done request words status source out err
done never one words status source out err request asks (inl refused) = absurd (not_both (is_refused words) refused.0 (never words request asks))
done never one words status source out err request asks (inr (inl wanting)) = inl wanting.0
done never one words status source out err request asks (inr (inr did)) = inr (did.0, one words request did.0 asks did.2, did.2, did.3)
