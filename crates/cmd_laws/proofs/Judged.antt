-- The trace of a run is judged, and it alone.
use Rattle.std.specs.Prelude.{◌≤◌, List, length}
use Rattle.std.proofs.Common.{subst}
use Rattle.std.specs.List.{AllByRecursion}
use Rattle.audit_claims.specs.Claimed.{IsPrintable}
use Rattle.def_history.specs.PlainEntries.{PlainEntry}
use Rattle.work_session.specs.Runs.{Run}
use Rattle.audit_trace.specs.Traces.{trace_text}
use Rattle.audit_claims.specs.Verdicts.{IsHistory, IsVerdict, Trial, Yes, is_quiet_after}
use Rattle.cmd_laws.specs.Circle.{HasPrintable, IsCalled, IsJudged, said_of, trial_for}
use Rattle.cmd_laws.proofs.Entries.{printable}
use Rattle.cmd_laws.proofs.Turns.{admitted, history, recorded}

pub run_printable : (r : Run) → IsCalled r → HasPrintable r
run_printable r k = printable r.session k.valid r.budget k.some r.settings k.most k.few r.history k.whole.legal (recorded r.session r.budget r.settings r.history k.whole)

-- a history whose entries can be printed has its verdict
abbrev pub HaveVerdicts : Type 0
HaveVerdicts =
    (t : Trial) (H : List PlainEntry) → IsHistory t.over H → length t.over.requests ≤ length H → AllByRecursion (IsPrintable t.relations) H
    → IsVerdict t (trace_text t.relations H) (Yes (length H) (is_quiet_after t.over H))

pub run_judged : HaveVerdicts → (r : Run) → IsCalled r → IsJudged r (said_of r)
run_judged have r k =
    subst (λ b. IsJudged r (Yes (length r.history) b)) k.whole.quiet
    (have (trial_for r) r.history (history r.session r.budget r.settings r.history k.whole) (admitted r.session r.budget r.settings r.history k.whole) (run_printable r k))
