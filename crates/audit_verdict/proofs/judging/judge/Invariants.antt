use Rattle.std.specs.Prelude.{◌≡◌, ◌+◌, ◌≤◌, List, [], length}
use Rattle.std.specs.Prelude.{ℕ}
use Rattle.audit_claims.specs.Forms.{IsOf}
use Rattle.audit_replay.specs.Replays.{IsReplay}
use Rattle.audit_verdict.specs.Judging.{Stands}
use Rattle.audit_claims.specs.Verdicts.{Trial}
use Rattle.audit_verdict.proofs.Judged.{AreLeft}
use Rattle.audit_verdict.proofs.judging.judge.Given as goal

abbrev pub invariant-loop-line : goal.invariant-loop-line
invariant-loop-line l = record {
  replay : IsReplay l.replay;
  few : l.entries + length l.rest ≤ length l.lines;
  goes_on : (t : Trial) (lines : List (List ℕ)) → t.relations ≡ l.schema → Stands t [] l.initial.replay → IsOf l.lines lines → AreLeft t lines l.rest l.entries l.replay;
}

abbrev pub decreases-loop-line : goal.decreases-loop-line
decreases-loop-line l = length l.rest
