-- What each command on a session makes of its input.
use Rattle.std.specs.Prelude.{◌≡◌, ℕ, List, [], ◌∷◌, ◌++◌, length, Option, Some, None, Result, Ok, Err, codes}
use Rattle.std.specs.Fmt.{decimal}
use Rattle.cmd_frame.specs.Outputs.{Meaning, OutputView, Text, Refused}
use Rattle.cmd_frame.specs.declared.outputs.Ending.TheVariants.{Ended}
use Rattle.cmd_frame.specs.declared.outputs.Refusal.TheVariants.{SessionRefused, BaseViolates}
use Rattle.def_language.specs.Faults.{Wrong, wrong_text}
use Rattle.def_language.specs.Lines.{read}
use Rattle.def_language.specs.Printing.{printed}
use Rattle.def_language.specs.Sessions.{SessionData, answer_count}
use Rattle.lang_print.specs.Upgrades.{upgraded}
use Rattle.lang_session.specs.Base.{Violated, base_violation}
use Rattle.cmd_plain.specs.Base.{base_line}

-- the line for an input that spells no session: its first fault
abbrev pub fault_line : Wrong → List ℕ
fault_line wrong = codes "youtopia: " ++ (wrong_text wrong ++ 10 ∷ [])

-- an output for the session that was read, or the refusal with the first fault
abbrev pub MadeOf : (SessionData → OutputView → Type 0) → Result SessionData Wrong → OutputView → Type 0
MadeOf makes (Ok s) output = makes s output
MadeOf makes (Err wrong) output = output ≡ Refused SessionRefused (fault_line wrong)

-- a command that may make several outputs of a session, as a command on the bytes that spell it
abbrev pub on_session_by : (SessionData → OutputView → Type 0) → Meaning
on_session_by makes input output = MadeOf makes (read input) output

-- a command that makes one output of a session
abbrev pub on_session : (SessionData → OutputView) → Meaning
on_session make = on_session_by (λ s output. output ≡ make s)

-- the output if the base violates no mapping, and otherwise the refusal
abbrev pub unless_violated : SessionData → OutputView → Option Violated → OutputView
unless_violated s output None = output
unless_violated s output (Some v) = Refused BaseViolates (base_line s.relations v)

-- `format`: the session's printed form
abbrev pub formatted : SessionData → OutputView
formatted s = Text Ended (printed s)

-- `upgrade`: the printed form of the session in format 2
abbrev pub upgraded_text : SessionData → OutputView
upgraded_text s = Text Ended (printed (upgraded s))

-- the numbers of a session's parts, in one line
abbrev pub count_line : SessionData → List ℕ
count_line s =
    codes "ok relations " ++ (decimal (length s.relations) ++ (codes " mappings " ++ (decimal (length s.mappings) ++ (codes " base "
    ++ (decimal (length s.base) ++ (codes " updates " ++ (decimal (length s.updates) ++ (codes " answers "
    ++ (decimal (answer_count s.updates) ++ 10 ∷ [])))))))))

-- `check`: the numbers of the session's parts, if its base meets the mappings in force from the start
abbrev pub checked : SessionData → OutputView
checked s = unless_violated s (Text Ended (count_line s)) (base_violation s)
