-- An audited input has one output.
use Rattle.std.specs.Prelude.{◌≡◌, ℕ, List, Option, Some, None, Result, Ok, Err}
use Rattle.std.proofs.Common.{sym, ap, ◌∙◌, inl, inr}
use Rattle.cmd_plain.specs.Audited.{IsAudited, IsAuditedUnless, IsJudged, audited, auditing, verdict_output}
use Rattle.audit_claims.specs.Parts.{after_result, after_session, session_in}
use Rattle.cmd_frame.specs.Outputs.{OutputView}
use Rattle.cmd_plain.specs.Commands.{MadeOf}
use Rattle.def_language.specs.Faults.{Wrong}
use Rattle.def_language.specs.Lines.{read}
use Rattle.def_language.specs.Sessions.{SessionData}
use Rattle.def_machine.specs.Updates.{Settings}
use Rattle.lang_session.specs.Base.{Violated, base_violation}
use Rattle.audit_claims.specs.Verdicts.{IsVerdict, Trial, Verdict, trial_of}

-- a text has one verdict
abbrev pub OneVerdict : Type 0
OneVerdict = (t : Trial) (text : List ℕ) (v w : Verdict) → IsVerdict t text v → IsVerdict t text w → v ≡ w

module _ (one : OneVerdict) (budget : ℕ) (c : Settings) where
  one_judged : (s : SessionData) (trace : List ℕ) (x y : OutputView) → IsJudged budget c s trace x → IsJudged budget c s trace y → x ≡ y
  one_judged s trace x y (v, is, told) (w, are, tells) = told ∙ ap verdict_output (one (trial_of s budget c) trace v w is are) ∙ sym tells

  one_audited : (s : SessionData) (rest : List ℕ) (x y : OutputView) → IsAudited budget c s rest x → IsAudited budget c s rest y → x ≡ y
  one_audited s rest x y (inl (alone, a)) (inl (lone, b)) = one_judged s rest x y a b
  one_audited s rest x y (inl (alone, a)) (inr (inl (own, b))) = absurd (alone own.0)
  one_audited s rest x y (inl (alone, a)) (inr (inr (other, b))) = absurd (alone other.0)
  one_audited s rest x y (inr (inl (own, a))) (inl (alone, b)) = absurd (alone own.0)
  one_audited s rest x y (inr (inl (own, a))) (inr (inl (owned, b))) = one_judged s (after_result rest) x y a b
  one_audited s rest x y (inr (inl (own, a))) (inr (inr (other, b))) = absurd (other.1 own.1)
  one_audited s rest x y (inr (inr (other, a))) (inl (alone, b)) = absurd (alone other.0)
  one_audited s rest x y (inr (inr (other, a))) (inr (inl (own, b))) = absurd (other.1 own.1)
  one_audited s rest x y (inr (inr (other, a))) (inr (inr (others, b))) = a ∙ sym b

  one_unless : (found : Option Violated) (s : SessionData) (rest : List ℕ) (x y : OutputView) → IsAuditedUnless found budget c s rest x → IsAuditedUnless found budget c s rest y
      → x ≡ y
  one_unless None s rest x y a b = one_audited s rest x y a b
  one_unless (Some v) s rest x y a b = a ∙ sym b

  one_made : (rest : List ℕ) (given : Result SessionData Wrong) (x y : OutputView) → MadeOf (auditing budget c rest) given x → MadeOf (auditing budget c rest) given y → x ≡ y
  one_made rest (Ok s) x y a b = one_unless (base_violation s) s rest x y a b
  one_made rest (Err wrong) x y a b = a ∙ sym b

  pub one_output : (input : List ℕ) (x y : OutputView) → audited budget c input x → audited budget c input y → x ≡ y
  one_output input x y a b = one_made (after_session input) (read (session_in input)) x y a b
