-- What is made of a session, and of what follows it.
use Rattle.std.specs.Prelude.{◌≡◌, ℕ, List, Result, IfOk}
use Rattle.std.proofs.Common.{sym, subst, ◌∙◌, inl, inr}
use Rattle.std.proofs.lemmas.Result.{IfOk-weaker}
use Rattle.cmd_plain.specs.Audited.{IsAudited, IsJudged, audited, auditing, own_result}
use Rattle.audit_claims.specs.Parts.{IsResult, after_result, after_session, result_in, session_in}
use Rattle.cmd_frame.specs.Outputs.{view_of}
use Rattle.cmd_frame.specs.declared.outputs.Output.{Output}
use Rattle.cmd_plain.specs.Commands.{MadeOf}
use Rattle.def_language.specs.Lines.{read}
use Rattle.def_language.specs.Sessions.{SessionData}
use Rattle.def_machine.specs.Updates.{Settings}

-- what is made of the session at the front is what is made of the input
pub placed : {E : Type 0} (budget : ℕ) (c : Settings) (input front rest : List ℕ) (r : Result Output E) → front ≡ session_in input → rest ≡ after_session input
    → IfOk r (λ output. MadeOf (auditing budget c rest) (read front) (view_of output)) → IfOk r (λ output. audited budget c input (view_of output))
placed budget c input front rest r session after made =
    IfOk-weaker r _ _
    (λ output its. subst (λ (l : List ℕ). MadeOf (auditing budget c (after_session input)) (read l) (view_of output)) session
    (subst (λ (l : List ℕ). MadeOf (auditing budget c l) (read front) (view_of output)) after its)) made

-- the trace after the result text of the session's run is judged
pub after_own : {E : Type 0} (budget : ℕ) (c : Settings) (s : SessionData) (rest part after : List ℕ) → IsResult rest → part ≡ result_in rest → (r : Result Output E)
    → after ≡ after_result rest → part ≡ own_result budget s → IfOk r (λ output. IsJudged budget c s after (view_of output))
    → IfOk r (λ output. IsAudited budget c s rest (view_of output))
after_own budget c s rest part after is front r from own made =
    IfOk-weaker r _ _ (λ output judged. inr (inl ((is, sym front ∙ own), subst (λ (trace : List ℕ). IsJudged budget c s trace (view_of output)) from judged))) made
