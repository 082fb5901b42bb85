-- An input followed by what a run writes of it is audited.
use Rattle.std.specs.Prelude.{◌≡◌, ◌++◌, ℕ, List, None, Option, Result}
use Rattle.std.proofs.Common.{refl, sym, subst, inl, inr}
use Rattle.cmd_plain.specs.Audited.{IsAudited, IsAuditedUnless, IsJudged, audited, auditing, verdict_output}
use Rattle.audit_claims.specs.Parts.{session_in}
use Rattle.cmd_plain.specs.Commands.{MadeOf}
use Rattle.def_language.specs.Faults.{Wrong}
use Rattle.def_language.specs.Lines.{Spells, read}
use Rattle.def_language.specs.Sessions.{SessionData}
use Rattle.def_language.specs.Validity.{IsSession}
use Rattle.def_history.specs.PlainEntries.{PlainEntry}
use Rattle.def_machine.specs.Updates.{Settings}
use Rattle.lang_report.specs.Results.{result_text, serial_told}
use Rattle.lang_session.specs.Base.{Violated, base_violation}
use Rattle.audit_trace.specs.Traces.{trace_text}
use Rattle.audit_claims.specs.Verdicts.{IsVerdict, Verdict, trial_of}
use Rattle.cmd_laws.specs.Circle.{IsClosed}
use Rattle.cmd_laws.proofs.Lines.{after_is, session_is}
use Rattle.cmd_laws.proofs.Results.{known, result_is, trace_is}

module _ (s : SessionData) (v : IsSession s) (B : ℕ) (c : Settings) (H : List PlainEntry) (verdict : Verdict) (judged : IsVerdict (trial_of s B c) (trace_text s.relations H) verdict) where
  abbrev text : List ℕ
  text = result_text s (serial_told B s) ++ trace_text s.relations H

  -- the result text is that of the session's run, and the trace after it is judged
  after_own : IsAudited B c s (result_text s (serial_told B s) ++ trace_text s.relations H) (verdict_output verdict)
  after_own =
      inr (inl (
        (known s v (serial_told B s) H, result_is s v (serial_told B s) H),
        subst (λ (trace : List ℕ). IsJudged B c s trace (verdict_output verdict)) (sym (trace_is s v (serial_told B s) H)) (verdict, judged, refl),
      ))

  unless : base_violation s ≡ None → IsAuditedUnless (base_violation s) B c s (result_text s (serial_told B s) ++ trace_text s.relations H) (verdict_output verdict)
  unless met = subst (λ (found : Option Violated). IsAuditedUnless found B c s (result_text s (serial_told B s) ++ trace_text s.relations H) (verdict_output verdict)) (sym met) after_own

  pub run_audited : (input : List ℕ) → Spells input s → IsClosed input → base_violation s ≡ None
      → audited B c (input ++ (result_text s (serial_told B s) ++ trace_text s.relations H)) (verdict_output verdict)
  run_audited input spells closed met =
      subst (λ (rest : List ℕ). MadeOf (auditing B c rest) (read (session_in (input ++ text))) (verdict_output verdict)) (sym (after_is input text closed))
      (subst (λ (front : List ℕ). MadeOf (auditing B c text) (read front) (verdict_output verdict)) (sym (session_is input text closed))
      (subst (λ (given : Result SessionData Wrong). MadeOf (auditing B c text) given (verdict_output verdict)) (sym spells) (unless met)))
