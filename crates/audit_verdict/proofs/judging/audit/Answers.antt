use Rattle.std.specs.Prelude.{ℕ, List, IfNone, IfSome}
use Rattle.std.proofs.Common.{refl, subst}
use Rattle.lang_session.specs.Meanings.{session_of}
use Rattle.audit_claims.specs.Forms.{HasNoLines, IsCounted}
use Rattle.audit_verdict.specs.Verdicts.{verdict_of}
use Rattle.audit_updates.specs.Settings.{settings_of}
use Rattle.audit_claims.specs.Verdicts.{trial_of, uncounted}
use Rattle.audit_verdict.proofs.Judged.{counted_lines, stands_first, verdict_on}
use Rattle.audit_verdict.proofs.judging.audit.Goals as goal

pub returns-in_default : goal.returns-in_default
returns-in_default c = record { verdict = uncounted (subst (λ found. IfNone found (HasNoLines c.args.trace.now)) c.in_default.is c.in_ok-lines.ensures.none) }

pub returns : goal.returns
returns c =
    let t = trial_of (session_of c.args.session.now) c.args.terms.budget (settings_of c.args.terms.settings) in
    let counted = subst (λ found. IfSome found (λ rest. (lines : List (List ℕ)) × IsCounted c.args.trace.now rest.now lines)) c.in-Some.is c.in_ok-lines.ensures.lines in
    let stands = stands_first t c.in_ok-replay.replay c.in_ok-replay.ensures.begun in
    record {
      verdict = verdict_on t c.args.trace.now counted.0 (verdict_of c.in_ok-verdict.verdict) (counted_lines c.args.trace.now c.in-Some.lines.now counted.0 counted.1)
          (c.in_ok-verdict.ensures.verdict t counted.0 refl stands counted.1.of);
    }
