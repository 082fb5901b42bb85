-- How a command may end on a session whose base meets its mappings.
use Rattle.std.proofs.Common.{◌≡◌, ◌⊎◌, ℕ, List, Option, Some, None, Result, Ok, Err, refl, inl, inr, sym, subst, true, false, Bool, if◌then◌else◌}
use Rattle.clap.specs.Words.{Text as Letters}
use Rattle.run_ask.specs.Bound.{bound_ask}
use Rattle.cmd_plain.specs.Audited.{IsAudited, IsAuditedUnless, auditing, verdict_output}
use Rattle.audit_claims.specs.Parts.{after_session, session_in}
use Rattle.run_ask.specs.Certain.{ConjunctiveQuery}
use Rattle.cmd_frame.specs.Devices.{Change}
use Rattle.cmd_frame.specs.Outputs.{OutputView}
use Rattle.cmd_frame.specs.Rows.{Row}
use Rattle.cmd_frame.specs.Statuses.{status_of, status_of_ending}
use Rattle.cmd_frame.specs.declared.statuses.Status.{Status}
use Rattle.cmd_frame.specs.declared.statuses.Status.TheVariants.{Ended, Stuck, OutOfMemory, TooLarge, Refuted, QueryRefused}
use Rattle.cmd_plain.specs.Asked.{asked, asked_over}
use Rattle.cmd_plain.specs.Commands.{MadeOf, formatted, upgraded_text, checked, unless_violated}
use Rattle.cmd_plain.specs.Journaled.{is_too_long, journal_output, journaled, left_of}
use Rattle.cmd_plain.specs.Runs.{ending_by, kept, ran, saved_output}
use Rattle.cmd_plain.specs.Explained.{explained}
use Rattle.def_language.specs.Faults.{Kind, Wrong}
use Rattle.def_language.specs.Lines.{Spells}
use Rattle.def_language.specs.Sessions.{SessionData}
use Rattle.run_laws.specs.Logged.{journal_of}
use Rattle.chase_update.specs.Results.{ResultTold, StopTold}
use Rattle.lang_report.specs.Results.{serial_told}
use Rattle.lang_report.specs.Saved.{is_too_large, saved}
use Rattle.run_serial.specs.Trails.{TrailsTold}
use Rattle.def_machine.specs.Updates.{Settings}
use Rattle.lang_session.specs.Base.{Violated, base_violation}
use Rattle.audit_claims.specs.Verdicts.{Verdict, Yes, No}
use Rattle.cmd_words.specs.Alike.{AskTheSame}
use Rattle.cmd_words.specs.declared.names.CommandName.{CommandName}
use Rattle.cmd_words.specs.declared.names.CommandName.TheVariants.{Run, Serial, Format, Check, Save, Upgrade, Ask, Explain, Audit, Drill, Journal, Recover}
use Rattle.cmd_words.specs.declared.reading.Options.{Options}
use Rattle.cmd_words.specs.declared.reading.Request.{Request}
use Rattle.cmd_words.specs.declared.reading.Request.TheVariants.{Command, Help, Version}
use Rattle.youtopia.proofs.Alike.{same_query}
use Rattle.youtopia.proofs.Asked.{NeverBoth, OneThing, StatusLaws, done}
use Rattle.youtopia.proofs.Completed.{row_done}
use Rattle.youtopia.proofs.Due.{ends_as}
use Rattle.youtopia.proofs.Statuses.{of_one, one_status}
use Rattle.youtopia.specs.Calls.{Calls, Performs, makes, settings_in}
use Rattle.youtopia.specs.Promises.{HasQuery, MayEnd, NothingFails, ReadsSession, Serves, read_for, session_for}

ends_or_stops : (stop : Option StopTold) → (status_of_ending (ending_by stop) ≡ Ended) ⊎ (status_of_ending (ending_by stop) ≡ Stuck)
ends_or_stops None = inl refl
ends_or_stops (Some stop) = inr refl

one_of_three : (stop : Option StopTold) (status : Status) → (status_of_ending (ending_by stop) ≡ Ended)
    ⊎ ((status_of_ending (ending_by stop) ≡ Stuck) ⊎ (status_of_ending (ending_by stop) ≡ status))
one_of_three None status = inl refl
one_of_three (Some stop) status = inr (inl refl)

either_ends : (large : Bool) (x y : OutputView) → MayEnd Save (status_of x) → MayEnd Save (status_of y) → MayEnd Save (status_of (if large then x else y))
either_ends true x y one other = one
either_ends false x y one other = other

kept_ends : (s : SessionData) (told : ResultTold) → MayEnd Save (status_of (saved_output s told))
kept_ends s told = either_ends (is_too_large (saved s told)) _ _ (inr (inr refl)) (one_of_three told.stop TooLarge)

asked_ends : (told : ResultTold) (q : Result ConjunctiveQuery Kind) → MayEnd Ask (status_of (asked_over told q))
asked_ends told (Ok q) = one_of_three told.stop QueryRefused
asked_ends told (Err kind) = inr (inr refl)

either_journal : (large : Bool) (x y : OutputView) → MayEnd Journal (status_of x) → MayEnd Journal (status_of y)
    → MayEnd Journal (status_of (if large then x else y))
either_journal true x y one other = one
either_journal false x y one other = other

journal_ends : (s : SessionData) (left : TrailsTold) → MayEnd Journal (status_of (journal_output s left))
journal_ends s left = either_journal (is_too_long (journal_of s left.trails)) _ _ (inr (inr refl)) (one_of_three left.stop TooLarge)

-- over a base that meets the mappings
met_ends : (k : CommandName) (s : SessionData) (x : OutputView) → base_violation s ≡ None → MayEnd k (status_of x)
    → MayEnd k (status_of (unless_violated s x (base_violation s)))
met_ends k s x met ends = subst (λ v. MayEnd k (status_of (unless_violated s x v))) (sym met) ends

-- a run of a session whose base meets its mappings ends, or stops
pub run_ends : (steps : ℕ) (s : SessionData) → base_violation s ≡ None → MayEnd Run (status_of (ran steps s))
run_ends steps s met = met_ends Run s _ met (ends_or_stops (serial_told steps s).stop)

-- each output of a command on such a session has one of its statuses
abbrev Served : CommandName → Options → List ℕ → Type 0
Served k o input = (x : OutputView) → makes k o input x → MayEnd k (status_of x)

-- where one has
by_output : StatusLaws → (k : CommandName) (o : Options) (input : List ℕ) (x : OutputView) → makes k o input x → MayEnd k (status_of x) → Served k o input
by_output laws k o input x made ends = λ y it. subst (MayEnd k) (one_status laws k o input x y made it) ends

-- what is told of a trace, or of a result that is another one
verdict_ends : (v : Verdict) → MayEnd Audit (status_of (verdict_output v))
verdict_ends (Yes n quiet) = inl refl
verdict_ends (No line why) = inr refl

audited_ends : (n : ℕ) (c : Settings) (s : SessionData) (rest : List ℕ) (x : OutputView) → IsAudited n c s rest x → MayEnd Audit (status_of x)
audited_ends n c s rest x (inl (alone, judged)) = subst (λ (y : OutputView). MayEnd Audit (status_of y)) (sym judged.2) (verdict_ends judged.0)
audited_ends n c s rest x (inr (inl (own, judged))) = subst (λ (y : OutputView). MayEnd Audit (status_of y)) (sym judged.2) (verdict_ends judged.0)
audited_ends n c s rest x (inr (inr (other, told))) = subst (λ (y : OutputView). MayEnd Audit (status_of y)) (sym told) (inr refl)

auditing_ends : (o : Options) (input : List ℕ) (s : SessionData) (x : OutputView) → Spells (session_in input) s → base_violation s ≡ None → makes Audit o input x
    → MayEnd Audit (status_of x)
auditing_ends o input s x spelled met made =
    let n = o.steps in
    let c = settings_in o in
    let rest = after_session input in
    let its : auditing n c rest s x = subst (λ (r : Result SessionData Wrong). MadeOf (auditing n c rest) r x) spelled made in
    audited_ends n c s rest x (subst (λ (v : Option Violated). IsAuditedUnless v n c s rest x) met its)

served : StatusLaws → (k : CommandName) (o : Options) (input : List ℕ) (s : SessionData) → ReadsSession k → HasQuery k o → Spells (session_for k input) s
    → base_violation s ≡ None → Served k o input
served laws Run o input s reads has spelled met =
    λ y it. subst (MayEnd Run) (sym (laws.runs o.trace o.steps (settings_in o) input y (ran o.steps s) it (of_one (ran o.steps) input s spelled)))
    (run_ends o.steps s met)
served laws Serial o input s reads has spelled met =
    by_output laws Serial o input (ran o.steps s) (of_one (ran o.steps) input s spelled) (run_ends o.steps s met)
served laws Save o input s reads has spelled met =
    by_output laws Save o input (kept o.steps s) (of_one (kept o.steps) input s spelled) (met_ends Save s _ met (kept_ends s (serial_told o.steps s)))
served laws Ask o input s reads has spelled met =
    by_output laws Ask o input (asked o.steps has.0 s) (has.0, has.1, of_one (asked o.steps has.0) input s spelled)
    (met_ends Ask s _ met (asked_ends (serial_told o.steps s) (bound_ask s.relations has.0)))
served laws Explain o input s reads has spelled met =
    by_output laws Explain o input (explained o.steps has.0 s) (has.0, has.1, of_one (explained o.steps has.0) input s spelled)
    (met_ends Explain s _ met (ends_or_stops (serial_told o.steps s).stop))
served laws Format o input s reads has spelled met =
    by_output laws Format o input (formatted s) (of_one formatted input s spelled) refl
served laws Upgrade o input s reads has spelled met =
    by_output laws Upgrade o input (upgraded_text s) (of_one upgraded_text input s spelled) refl
served laws Journal o input s reads has spelled met =
    by_output laws Journal o input (journaled o.steps s) (of_one (journaled o.steps) input s spelled)
    (met_ends Journal s _ met (journal_ends s (left_of o.steps s)))
served laws Recover o input s reads has spelled met = absurd reads
served laws Drill o input s reads has spelled met = absurd reads
served laws Audit o input s reads has spelled met = λ x made. auditing_ends o input s x spelled met made
served laws Check o input s reads has spelled met =
    by_output laws Check o input (checked s) (of_one checked input s spelled) (met_ends Check s _ met refl)

-- a command that reads a session reads the source
reads_source : (k : CommandName) (source : Change) → ReadsSession k → read_for k source ≡ source
reads_source Recover source reads = absurd reads
reads_source Drill source reads = absurd reads
reads_source _ source reads = refl

by_done : StatusLaws → (o : Options) (status : Status) (source out err : Change) (input : List ℕ) (s : SessionData) → ReadsSession o.command
    → HasQuery o.command o → Spells (session_for o.command input) s → base_violation s ≡ None → NothingFails input source out → (other : Request) → AskTheSame (Command o) other
    → Performs other status source out err → MayEnd o.command status ⊎ (status ≡ OutOfMemory)
by_done laws o status source out err input s reads has spelled met fine (Command p) same did =
    let query = same_query p.command o p same (subst (λ (k : CommandName). HasQuery k o) same.command has) in
    let its = subst ReadsSession same.command reads in
    let one = served laws p.command p input s its query (subst (λ (k : CommandName). Spells (session_for k input) s) same.command spelled) met in
    let row = subst (λ (c : Change). Row status (makes p.command p) c out err) (reads_source p.command source its)
    (row_done p.command p status source out err query did) in
    elim (ends_as (MayEnd p.command) status (makes p.command p) source out err row input fine.held fine.short one fine.reads fine.writes) [
      | inl is ↦ inl (subst (λ (k : CommandName). MayEnd k status) (sym same.command) is)
      | inr wanting ↦ inr wanting
    ]
by_done laws o status source out err input s reads has spelled met fine Help same did = absurd same
by_done laws o status source out err input s reads has spelled met fine Version same did = absurd same

pub serves : NeverBoth → OneThing → StatusLaws → (words : List Letters) (status : Status) (source out err : Change) → Calls words status source out err
    → Serves words status source out
serves never one laws words status source out err calls = λ options input s asks reads has spelled met fine.
    elim (done never one words status source out err (Command options) asks calls) [
      | inl wanting ↦ inr wanting
      | inr did ↦ by_done laws options status source out err input s reads has spelled met fine did.0 did.1 did.3
    ]
