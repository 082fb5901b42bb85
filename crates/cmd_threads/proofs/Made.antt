-- What is printed of a session that workers ran is an output of `run`.
use Rattle.std.proofs.Common.{◌≡◌, ◌∙◌, ◌++◌, ℕ, Bool, List, Some, ap, ap₂, subst}
use Rattle.cmd_frame.specs.Outputs.{OutputView, Text}
use Rattle.cmd_frame.specs.declared.outputs.Ending.{Ending}
use Rattle.cmd_plain.specs.Runs.{ending_by}
use Rattle.def_language.specs.Sessions.{SessionData}
use Rattle.def_history.specs.PlainEntries.{PlainEntry}
use Rattle.def_machine.specs.Updates.{Settings}
use Rattle.chase_update.specs.Results.{ResultTold}
use Rattle.lang_report.specs.Results.{result_text, serial_told}
use Rattle.work_session.specs.Runs.{IsRunOf, IsWholeRun, Run}
use Rattle.cmd_threads.specs.Runs.{RunsTo, run_text, trace_part}

pub printed : (trace : Bool) (r : Run) (s : SessionData) (told : ResultTold) (text whole : List ℕ) (entries : List PlainEntry) (e : Ending) → r.session ≡ s
    → IsWholeRun r → told ≡ serial_told r.budget r.session → text ≡ result_text s told → whole ≡ text ++ trace_part trace s.relations entries
    → entries ≡ r.history → e ≡ ending_by told.stop → RunsTo trace r.budget r.settings s (Text e whole)
printed trace r s told text whole entries e same run is_told is_text is_whole is_history is_ending =
    let all : told ≡ serial_told r.budget s = is_told ∙ ap (serial_told r.budget) same in
    let joined : text ++ trace_part trace s.relations entries ≡ run_text trace r.budget s r.history =
    ap₂ (λ (a b : List ℕ). a ++ b) (is_text ∙ ap (result_text s) all) (ap (trace_part trace s.relations) is_history) in (
      r.history,
      subst (λ (x : SessionData). IsRunOf x r.budget r.settings r.history) same run,
      ap₂ (λ (x : Ending) (l : List ℕ). Text x l) (is_ending ∙ ap (λ (x : ResultTold). ending_by x.stop) all) (is_whole ∙ joined),
    )

-- the budget and the settings of the run are those that were asked for
pub asked_for : (trace : Bool) (m n : ℕ) (c d : Settings) (s : SessionData) (x : OutputView) → m ≡ n → c ≡ d → RunsTo trace m c s x → RunsTo trace n d s x
asked_for trace m n c d s x steps settings is =
    subst (λ (y : Settings). RunsTo trace n y s x) settings (subst (λ (k : ℕ). RunsTo trace k c s x) steps is)

-- ---- the base
