-- A command with its options has one status for an input.
use Rattle.std.proofs.Common.{◌≡◌, ◌∙◌, ℕ, List, Some, Result, Ok, Err, refl, ap, sym, subst}
use Rattle.run_ask.specs.Written.{WrittenAsk, SpellsAsk, ask_at}
use Rattle.cmd_frame.specs.Outputs.{OutputView, Refused}
use Rattle.cmd_frame.specs.Statuses.{status_of}
use Rattle.cmd_frame.specs.declared.outputs.Refusal.TheVariants.{SessionRefused}
use Rattle.cmd_plain.specs.Asked.{asked}
use Rattle.cmd_plain.specs.Commands.{MadeOf, on_session, fault_line, formatted, upgraded_text, checked}
use Rattle.cmd_plain.specs.Journaled.{journaled}
use Rattle.cmd_plain.specs.Runs.{kept, ran}
use Rattle.cmd_threads.specs.Drilling.{drilling}
use Rattle.cmd_plain.specs.Explained.{explained}
use Rattle.def_language.specs.Faults.{Wrong}
use Rattle.def_language.specs.Lines.{Spells, read}
use Rattle.def_language.specs.Sessions.{SessionData}
use Rattle.def_language.specs.Statements.{WrittenFact}
use Rattle.lang_reader.specs.Facts.{SpellsFact}
use Rattle.cmd_words.specs.declared.names.CommandName.{CommandName}
use Rattle.cmd_words.specs.declared.names.CommandName.TheVariants.{Run, Serial, Format, Check, Save, Upgrade, Ask, Explain, Audit, Drill, Journal, Recover}
use Rattle.cmd_words.specs.declared.reading.Options.{Options}
use Rattle.youtopia.proofs.Asked.{OneRun, StatusLaws}
use Rattle.youtopia.specs.Calls.{AsksFor, AsksWhy, makes, settings_in}

one_ok : {A E : Type 0} (x y : A) → (let r : Result A E = Ok x in r) ≡ Ok y → x ≡ y
one_ok x y is = cc

one_some : {A : Type 0} (x y : A) → Some x ≡ Some y → x ≡ y
one_some x y is = cc

-- bytes spell one session
pub one_session : (input : List ℕ) (s t : SessionData) → Spells input s → Spells input t → s ≡ t
one_session input s t a b = one_ok s t (sym a ∙ b)

one_query : (t : List ℕ) (p q : WrittenAsk) → SpellsAsk t p → SpellsAsk t q → p ≡ q
one_query t p q a b =
    let words : a.words ≡ b.words = one_ok a.words b.words (sym a.spoken ∙ b.spoken) in
    one_ok p q (sym a.read ∙ (ap ask_at words ∙ b.read))

one_asked : (options : Options) (p q : WrittenAsk) → AsksFor options p → AsksFor options q → p ≡ q
one_asked options p q a b =
    one_query b.0 p q (subst (λ (t : List ℕ). SpellsAsk t p) (one_some a.0 b.0 (sym a.1 ∙ b.1)) a.2) b.2

one_fact : (t : List ℕ) (p q : WrittenFact) → SpellsFact t p → SpellsFact t q → p ≡ q
one_fact t p q a b = one_ok p q (sym a.words ∙ b.words)

one_why : (options : Options) (p q : WrittenFact) → AsksWhy options p → AsksWhy options q → p ≡ q
one_why options p q a b =
    one_fact b.0 p q (subst (λ (t : List ℕ). SpellsFact t p) (one_some a.0 b.0 (sym a.1 ∙ b.1)) a.2) b.2

-- ---- a function makes one output of what was read

one_made : (make : SessionData → OutputView) (given : Result SessionData Wrong) (x y : OutputView) → MadeOf (λ s output. output ≡ make s) given x
    → MadeOf (λ s output. output ≡ make s) given y → x ≡ y
one_made make (Ok s) x y a b = a ∙ sym b
one_made make (Err wrong) x y a b = a ∙ sym b

made_of : (make : SessionData → OutputView) (given : Result SessionData Wrong) → (x : OutputView) × MadeOf (λ s output. output ≡ make s) given x
made_of make (Ok s) = (make s, refl)
made_of make (Err wrong) = (Refused SessionRefused (fault_line wrong), refl)

one_of : (make : SessionData → OutputView) (input : List ℕ) (x y : OutputView) → on_session make input x → on_session make input y → status_of x ≡ status_of y
one_of make input x y a b = ap status_of (one_made make (read input) x y a b)

-- what it makes of the session that an input spells
pub of_one : (make : SessionData → OutputView) (input : List ℕ) (s : SessionData) → Spells input s → on_session make input (make s)
of_one make input s spelled = subst (λ given. MadeOf (λ s output. output ≡ make s) given (make s)) (sym spelled) refl

-- ---- the commands

one_run : OneRun → (options : Options) (input : List ℕ) (x y : OutputView) → makes Run options input x → makes Run options input y → status_of x ≡ status_of y
one_run runs options input x y a b =
    let z = made_of (ran options.steps) (read input) in
    runs options.trace options.steps (settings_in options) input x z.0 a z.1
    ∙ sym (runs options.trace options.steps (settings_in options) input y z.0 b z.1)

one_drill : (steps count seed : ℕ) (input : List ℕ) (x y : OutputView) → drilling steps count seed input x → drilling steps count seed input y → status_of x ≡ status_of y
unfolding drilling
one_drill steps count seed input x y a b = ap status_of (a ∙ sym b)

pub one_status : StatusLaws → (k : CommandName) (options : Options) (input : List ℕ) (x y : OutputView) → makes k options input x
    → makes k options input y → status_of x ≡ status_of y
one_status laws Recover options input x y a b = laws.recovered input x y a b
one_status laws Audit options input x y a b = ap status_of (laws.audited options.steps (settings_in options) input x y a b)
one_status laws Ask options input x y a b =
    one_of (asked options.steps b.0) input x y
    (subst (λ (q : WrittenAsk). on_session (asked options.steps q) input x) (one_asked options a.0 b.0 a.1 b.1) a.2) b.2
one_status laws Explain options input x y a b =
    one_of (explained options.steps b.0) input x y
    (subst (λ (fact : WrittenFact). on_session (explained options.steps fact) input x) (one_why options a.0 b.0 a.1 b.1) a.2) b.2
one_status laws Run options input x y a b = one_run laws.runs options input x y a b
one_status laws Serial options input x y a b = one_of (ran options.steps) input x y a b
one_status laws Save options input x y a b = one_of (kept options.steps) input x y a b
one_status laws Drill options input x y a b = one_drill options.steps options.count options.seed input x y a b
one_status laws Journal options input x y a b = one_of (journaled options.steps) input x y a b
one_status laws Format options input x y a b = one_of formatted input x y a b
one_status laws Upgrade options input x y a b = one_of upgraded_text input x y a b
one_status laws Check options input x y a b = one_of checked input x y a b
