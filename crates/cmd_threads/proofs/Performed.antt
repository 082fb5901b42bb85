-- A run that has written its text was one of a session whose base meets its mappings.
use Rattle.std.proofs.Common.{◌≡◌, ◌≤◌, ℕ, Bool, List, Option, Some, None, Result, Ok, Err, refl, inl, inr, subst}
use Rattle.cmd_frame.specs.Devices.{Change, Takes}
use Rattle.cmd_frame.specs.Outputs.{OutputView, Text, Refused}
use Rattle.cmd_frame.specs.Rows.{Row, Ends}
use Rattle.cmd_frame.specs.declared.outputs.Ending.{Ending}
use Rattle.cmd_frame.specs.declared.outputs.Refusal.{Refusal}
use Rattle.cmd_frame.specs.declared.statuses.Status.{Status}
use Rattle.cmd_plain.specs.Commands.{MadeOf, on_session_by}
use Rattle.cmd_plain.specs.Written.{HasWritten}
use Rattle.def_language.specs.Faults.{Wrong}
use Rattle.def_language.specs.Lines.{Spells, read}
use Rattle.def_language.specs.Sessions.{SessionData}
use Rattle.def_language.specs.Validity.{IsSession}
use Rattle.run_laws.specs.Kept.{InForceHold, IsRunnable}
use Rattle.def_machine.specs.Updates.{Settings}
use Rattle.lang_report.specs.Results.{serial_told}
use Rattle.lang_session.specs.Base.{Violated, base_violation}
use Rattle.cmd_threads.specs.Runs.{RunsTo, UnlessViolated, run_text, running}
use Rattle.cmd_threads.specs.Written.{WroteRun}
use Rattle.cmd_threads.proofs.Named.{names_nulls}

no_text : (e : Ending) (t : List ℕ) (r : Refusal) (line : List ℕ) → Text e t ≡ Refused r line → ⊥
no_text e t r line is = cc

one_text : (e f : Ending) (t u : List ℕ) → Text e t ≡ Text f u → t ≡ u
one_text e f t u is = cc

-- where a text is made of what was read, a session was read
read_one : (trace : Bool) (n : ℕ) (c : Settings) (e : Ending) (t : List ℕ) (given : Result SessionData Wrong) → MadeOf (running trace n c) given (Text e t)
    → (s : SessionData) × (given ≡ Ok s) × running trace n c s (Text e t)
read_one trace n c e t (Ok s) is = (s, refl, is)
read_one trace n c e t (Err wrong) is = absurd (no_text e t _ _ is)

-- where a text is made of a session, its base violates no mapping
met_one : (s : SessionData) (makes : OutputView → Type 0) (e : Ending) (t : List ℕ) (found : Option Violated) → UnlessViolated s makes found (Text e t)
    → (found ≡ None) × makes (Text e t)
met_one s makes e t None is = (refl, is)
met_one s makes e t (Some v) is = absurd (no_text e t _ _ is)

-- The laws that are used: what is spelled is a session, and a run leaves what meets the mappings.
abbrev Valid : Type 0
Valid = (bytes : List ℕ) (s : SessionData) → Spells bytes s → IsSession s

abbrev Leaves : Type 0
Leaves = (n : ℕ) (s : SessionData) → IsRunnable n s → InForceHold s (serial_told n s)

ended : Valid → Leaves → (trace : Bool) (n : ℕ) (c : Settings) (e : Ending) (source out err : Change) → 1 ≤ n → n ≤ 1000001
    → Ends e (on_session_by (running trace n c)) source out err → WroteRun trace n c source out
ended valid leaves trace n c e source out err some most row =
    let all = row.0 in
    let made = all.4 in
    let one = read_one trace n c e made.0 (read all.0) made.1 in
    let s = one.0 in
    let met = met_one s (RunsTo trace n c s) e made.0 (base_violation s) one.2 in
    let text = one_text e _ made.0 (run_text trace n s met.1.0) met.1.2 in
    record {
      input = all.0;
      session = s;
      given = all.1;
      whole = all.2;
      spelled = one.1;
      history = met.1.0;
      made = met.1.1;
      taken = subst (λ (t : List ℕ). Takes out t) text made.2;
      hold = leaves n s (record { session = valid all.0 s one.1; met = met.0; some = some; most = most });
      nulls = names_nulls s (valid all.0 s one.1) met.0 n some c met.1.0 met.1.1;
    }

pub written : Valid → Leaves → (trace : Bool) (n : ℕ) (c : Settings) (status : Status) (source out err : Change) → 1 ≤ n → n ≤ 1000001 → HasWritten status
    → Row status (on_session_by (running trace n c)) source out err → WroteRun trace n c source out
written valid leaves trace n c status source out err some most (inl is) row =
    ended valid leaves trace n c _ source out err some most (subst (λ (k : Status). Row k (on_session_by (running trace n c)) source out err) is row)
written valid leaves trace n c status source out err some most (inr is) row =
    ended valid leaves trace n c _ source out err some most (subst (λ (k : Status). Row k (on_session_by (running trace n c)) source out err) is row)
