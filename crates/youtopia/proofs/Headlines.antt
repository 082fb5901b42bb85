-- What runs write.
use Rattle.std.proofs.Common.{◌≡◌, ◌∙◌, ◌≤◌, ◌⊎◌, ℕ, List, None, inl, inr, ap, sym, subst, arith}
use Rattle.clap.specs.Words.{Text as Letters}
use Rattle.std.specs.Io.KnownBytes.{Consumes}
use Rattle.cmd_frame.specs.Devices.{Change, Takes}
use Rattle.cmd_frame.specs.Rows.{Row}
use Rattle.cmd_frame.specs.Statuses.{status_of, status_of_ending}
use Rattle.cmd_frame.specs.declared.statuses.Status.{Status}
use Rattle.cmd_frame.specs.declared.statuses.Status.TheVariants.{OutOfMemory}
use Rattle.cmd_plain.specs.Commands.{on_session_by, unless_violated}
use Rattle.cmd_plain.specs.Runs.{ending_by, ran, result_output}
use Rattle.cmd_plain.specs.Written.{HasWritten}
use Rattle.def_language.specs.Lines.{Spells}
use Rattle.def_language.specs.Sessions.{SessionData}
use Rattle.run_laws.specs.Kept.{InForceHold}
use Rattle.lang_report.specs.Results.{serial_told}
use Rattle.cmd_threads.specs.Nulls.{NamesNulls}
use Rattle.cmd_threads.specs.Runs.{run_text, running}
use Rattle.cmd_threads.specs.Written.{WroteRun}
use Rattle.work_session.specs.Runs.{IsRunOf}
use Rattle.lang_session.specs.Base.{base_violation}
use Rattle.cmd_words.specs.Alike.{AskTheSame}
use Rattle.cmd_words.specs.Meaning.{Answers}
use Rattle.cmd_words.specs.declared.names.CommandName.{CommandName}
use Rattle.cmd_words.specs.declared.names.CommandName.TheVariants.{Run, Serial}
use Rattle.cmd_words.specs.declared.reading.Options.{Options}
use Rattle.cmd_words.specs.declared.reading.Request.{Request}
use Rattle.cmd_words.specs.declared.reading.Request.TheVariants.{Command, Help, Version}
use Rattle.youtopia.proofs.Alike.{run_back, same_wrote}
use Rattle.youtopia.proofs.Asked.{NeverBoth, OneThing, OneRun, Held, RunHeld, done}
use Rattle.youtopia.proofs.Due.{complete, whole}
use Rattle.youtopia.proofs.Served.{run_ends}
use Rattle.youtopia.proofs.Statuses.{of_one, one_session}
use Rattle.youtopia.specs.Calls.{Calls, Does, Performs, makes, settings_in}
use Rattle.youtopia.specs.Promises.{Headline, IsRun, LeavesWhatHolds, NothingFails, WritesSerially, Wrote}

-- ---- what runs leave

no_memory : (status : Status) → status ≡ OutOfMemory → HasWritten status → ⊥
no_memory status wanting (inl ended) = cc
no_memory status wanting (inr stuck) = cc

run_holds : Held → RunHeld → (k : CommandName) (p : Options) (status : Status) (source out err : Change) → 1 ≤ p.steps → p.steps ≤ 300 → IsRun k → HasWritten status
    → Does k p status source out err → Wrote k p source out
run_holds held runs Run p status source out err some most run written row = runs p.trace p.steps (settings_in p) status source out err some (omega (arith, most)) written row
run_holds held runs Serial p status source out err some most run written row = held p.steps status source out err some (omega (arith, most)) written row
run_holds held runs _ p status source out err some most run written row = absurd run

done_holds : Held → RunHeld → (words : List Letters) (o : Options) (status : Status) (source out err : Change) → IsRun o.command → HasWritten status
    → (other : Request) → AskTheSame (Command o) other → Answers words other → Performs other status source out err → Wrote o.command o source out
done_holds held runs words o status source out err run written (Command p) same says did =
    subst (λ (k : CommandName). Wrote k o source out) (sym same.command)
    (same_wrote p.command o p source out same
    (run_holds held runs p.command p status source out err says.steps.1 says.steps.2 (subst (λ (k : CommandName). IsRun k) same.command run) written did))
done_holds held runs words o status source out err run written Help same says did = absurd same
done_holds held runs words o status source out err run written Version same says did = absurd same

pub leaves : NeverBoth → OneThing → Held → RunHeld → (words : List Letters) (status : Status) (source out err : Change) → Calls words status source out err
    → LeavesWhatHolds words status source out
leaves never one held runs words status source out err calls = λ options asks run written.
    elim (done never one words status source out err (Command options) asks calls) [
      | inl wanting ↦ absurd (no_memory status wanting written)
      | inr did ↦ done_holds held runs words options status source out err run written did.0 did.1 did.2 did.3
    ]

-- ---- the headline

-- the status of a run of a session whose base meets its mappings
met_status : (steps : ℕ) (s : SessionData) → base_violation s ≡ None → status_of (ran steps s) ≡ status_of_ending (ending_by (serial_told steps s).stop)
met_status steps s met = ap (λ found. status_of (unless_violated s (result_output s (serial_told steps s)) found)) met

-- what was written, of the session that the input spells
told_of : (o : Options) (source out : Change) (input : List ℕ) (s : SessionData) (status : Status) → Spells input s → NothingFails input source out
    → status ≡ status_of_ending (ending_by (serial_told o.steps s).stop) → WroteRun o.trace o.steps (settings_in o) source out → WritesSerially o s status out
told_of o source out input s status spelled fine ended wrote =
    let all = whole input wrote.input source.bytes_after (subst (λ b. Consumes b source.bytes_after wrote.input) fine.held wrote.given) wrote.whole in
    let one : wrote.session ≡ s = one_session input wrote.session s (subst (λ (l : List ℕ). Spells l wrote.session) all wrote.spelled) spelled in
    let made = subst (λ (t : SessionData). IsRunOf t o.steps (settings_in o) wrote.history) one wrote.made in
    let taken = subst (λ (t : SessionData). Takes out (run_text o.trace o.steps t wrote.history)) one wrote.taken in
    let hold = subst (λ (t : SessionData). InForceHold t (serial_told o.steps t)) one wrote.hold in
    let nulls = subst (λ (t : SessionData). NamesNulls t o.steps (settings_in o) wrote.history) one wrote.nulls in
    record { history = wrote.history; made = made; taken = taken; ending = ended; hold = hold; nulls = nulls }

by_row : RunHeld → OneRun → (o : Options) (status : Status) (source out err : Change) (input : List ℕ) (s : SessionData) → 1 ≤ o.steps → o.steps ≤ 300
    → Spells input s → base_violation s ≡ None → NothingFails input source out → Row status (makes Run o) source out err
    → WritesSerially o s status out ⊎ (status ≡ OutOfMemory)
by_row held runs o status source out err input s some most spelled met fine row =
    elim (complete status (makes Run o) source out err row input (status_of (ran o.steps s)) fine.held fine.short
    (λ y it. runs o.trace o.steps (settings_in o) input y (ran o.steps s) it (of_one (ran o.steps) input s spelled)) fine.reads fine.writes) [
      | inl is ↦ inl (told_of o source out input s status spelled fine (is ∙ met_status o.steps s met)
          (held o.trace o.steps (settings_in o) status source out err some (omega (arith, most)) (subst HasWritten (sym is) (run_ends o.steps s met)) row))
      | inr wanting ↦ inr wanting
    ]

by_done : RunHeld → OneRun → (words : List Letters) (o : Options) (status : Status) (source out err : Change) (input : List ℕ) (s : SessionData)
    → Answers words (Command o) → o.command ≡ Run → Spells input s → base_violation s ≡ None → NothingFails input source out → (other : Request)
    → AskTheSame (Command o) other → Performs other status source out err → WritesSerially o s status out ⊎ (status ≡ OutOfMemory)
by_done held runs words o status source out err input s says run spelled met fine (Command p) same did =
    let row : Does Run p status source out err = subst (λ (k : CommandName). Does k p status source out err) (sym same.command ∙ run) did in
    by_row held runs o status source out err input s says.steps.1 says.steps.2 spelled met fine
    (run_back (λ trace n c. Row status (on_session_by (running trace n c)) source out err) o p same row)
by_done held runs words o status source out err input s says run spelled met fine Help same did = absurd same
by_done held runs words o status source out err input s says run spelled met fine Version same did = absurd same

pub headline : NeverBoth → OneThing → RunHeld → OneRun → (words : List Letters) (status : Status) (source out err : Change) → Calls words status source out err
    → Headline words status source out
headline never one held runs words status source out err calls = λ options input s asks run spelled met fine.
    elim (done never one words status source out err (Command options) asks calls) [
      | inl wanting ↦ inr wanting
      | inr did ↦ by_done held runs words options status source out err input s asks run spelled met fine did.0 did.1 did.3
    ]
