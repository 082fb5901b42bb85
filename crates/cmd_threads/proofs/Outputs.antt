-- What `run` makes beside what `serial` makes.
use Rattle.std.proofs.Common.{◌≡◌, ◌∙◌, ℕ, Bool, false, List, Option, Some, None, Result, Ok, Err, sym, ap, append-nil}
use Rattle.cmd_frame.specs.Outputs.{OutputView, Text}
use Rattle.cmd_frame.specs.Statuses.{status_of}
use Rattle.cmd_plain.specs.Commands.{MadeOf, on_session, on_session_by, unless_violated}
use Rattle.cmd_plain.specs.Runs.{ending_by, ran, result_output}
use Rattle.def_language.specs.Faults.{Wrong}
use Rattle.def_language.specs.Lines.{read}
use Rattle.def_language.specs.Sessions.{SessionData}
use Rattle.def_machine.specs.Updates.{Settings}
use Rattle.lang_report.specs.Results.{result_text, serial_told}
use Rattle.lang_session.specs.Base.{Violated, base_violation}
use Rattle.cmd_threads.specs.Runs.{RunsTo, UnlessViolated, running}

-- ---- without its trace

untraced_over : (steps : ℕ) (c : Settings) (s : SessionData) (found : Option Violated) (x : OutputView) → UnlessViolated s (RunsTo false steps c s) found x
    → x ≡ unless_violated s (result_output s (serial_told steps s)) found
untraced_over steps c s None x is = is.2 ∙ ap (Text (ending_by (serial_told steps s).stop)) (append-nil (result_text s (serial_told steps s)))
untraced_over steps c s (Some v) x is = is

untraced_of : (steps : ℕ) (c : Settings) (given : Result SessionData Wrong) (x : OutputView) → MadeOf (running false steps c) given x
    → MadeOf (λ s output. output ≡ ran steps s) given x
untraced_of steps c (Ok s) x is = untraced_over steps c s (base_violation s) x is
untraced_of steps c (Err wrong) x is = is

pub untraced : (steps : ℕ) (c : Settings) (input : List ℕ) (x : OutputView) → on_session_by (running false steps c) input x → on_session (ran steps) input x
untraced steps c input x is = untraced_of steps c (read input) x is

-- ---- the status

status_over : (trace : Bool) (steps : ℕ) (c : Settings) (s : SessionData) (found : Option Violated) (x : OutputView) → UnlessViolated s (RunsTo trace steps c s) found x
    → status_of x ≡ status_of (unless_violated s (result_output s (serial_told steps s)) found)
status_over trace steps c s None x is = ap status_of is.2
status_over trace steps c s (Some v) x is = ap status_of is

status_at : (trace : Bool) (steps : ℕ) (c : Settings) (given : Result SessionData Wrong) (x y : OutputView) → MadeOf (running trace steps c) given x
    → MadeOf (λ s output. output ≡ ran steps s) given y → status_of x ≡ status_of y
status_at trace steps c (Ok s) x y is other = status_over trace steps c s (base_violation s) x is ∙ sym (ap status_of other)
status_at trace steps c (Err wrong) x y is other = ap status_of (is ∙ sym other)

pub one_status : (trace : Bool) (steps : ℕ) (c : Settings) (input : List ℕ) (x y : OutputView) → on_session_by (running trace steps c) input x
    → on_session (ran steps) input y → status_of x ≡ status_of y
one_status trace steps c input x y is other = status_at trace steps c (read input) x y is other
