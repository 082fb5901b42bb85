-- What the command `audit` makes of its input: a session, perhaps the result text of its run, and a trace.
use Rattle.std.specs.Prelude.{◌≡◌, ◌⊎◌, ℕ, List, [], ◌∷◌, ◌++◌, Option, Some, None, codes}
use Rattle.audit_claims.specs.Parts.{IsResult, after_result, after_session, result_in, session_in}
use Rattle.cmd_frame.specs.Outputs.{Meaning, OutputView, Text, Refused}
use Rattle.cmd_frame.specs.declared.outputs.Ending.{Ending}
use Rattle.cmd_frame.specs.declared.outputs.Ending.TheVariants.{Ended, Refuted}
use Rattle.cmd_frame.specs.declared.outputs.Refusal.TheVariants.{BaseViolates}
use Rattle.cmd_plain.specs.Base.{base_line}
use Rattle.cmd_plain.specs.Commands.{MadeOf}
use Rattle.def_language.specs.Lines.{read}
use Rattle.def_language.specs.Sessions.{SessionData}
use Rattle.def_machine.specs.Updates.{Settings}
use Rattle.lang_report.specs.Results.{result_text, serial_told}
use Rattle.lang_session.specs.Base.{Violated, base_violation}
use Rattle.audit_claims.specs.Verdicts.{IsVerdict, Verdict, Yes, No, trial_of, verdict_text}

-- how the command ends with this verdict
abbrev pub ending_of : Verdict → Ending
ending_of (Yes n quiet) = Ended
ending_of (No line why) = Refuted

-- the verdict, in one line
abbrev pub verdict_output : Verdict → OutputView
verdict_output v = Text (ending_of v) (verdict_text v ++ 10 ∷ [])

-- The output is a verdict on the trace.
abbrev pub IsJudged : ℕ → Settings → SessionData → List ℕ → OutputView → Type 0
IsJudged budget c s trace output = (v : Verdict) × IsVerdict (trial_of s budget c) trace v × (output ≡ verdict_output v)

-- the result text of the session's run
abbrev pub own_result : ℕ → SessionData → List ℕ
own_result budget s = result_text s (serial_told budget s)

-- What follows the session begins with the result text of its run; then, with another result text.
abbrev pub HasOwnResult : ℕ → SessionData → List ℕ → Type 0
HasOwnResult budget s rest = IsResult rest × (result_in rest ≡ own_result budget s)

abbrev pub HasOtherResult : ℕ → SessionData → List ℕ → Type 0
HasOtherResult budget s rest = IsResult rest × (result_in rest ≡ own_result budget s → ⊥)

-- the output for another result text, whatever trace follows it
abbrev pub no_result : OutputView
no_result = Text Refuted (codes "no result\n")

-- The output for what follows the session: a trace, the result text of its run and a trace, or another result text.
abbrev pub IsAudited : ℕ → Settings → SessionData → List ℕ → OutputView → Type 0
IsAudited budget c s rest output =
    ((IsResult rest → ⊥) × IsJudged budget c s rest output)
    ⊎ ((HasOwnResult budget s rest × IsJudged budget c s (after_result rest) output)
    ⊎ (HasOtherResult budget s rest × (output ≡ no_result)))

-- The output, or the refusal if the base violates a mapping.
abbrev pub IsAuditedUnless : Option Violated → ℕ → Settings → SessionData → List ℕ → OutputView → Type 0
IsAuditedUnless None budget c s rest output = IsAudited budget c s rest output
IsAuditedUnless (Some v) budget c s rest output = output ≡ Refused BaseViolates (base_line s.relations v)

-- the output for a session and what follows it
abbrev pub auditing : ℕ → Settings → List ℕ → SessionData → OutputView → Type 0
auditing budget c rest s output = IsAuditedUnless (base_violation s) budget c s rest output

-- `audit`, with `budget` steps for each attempt and these settings: the session at the front of the input is read, and what
-- follows it is judged
abbrev pub audited : ℕ → Settings → Meaning
audited budget c input output = MadeOf (auditing budget c (after_session input)) (read (session_in input)) output
