-- What a run tells.
use Rattle.std.proofs.Common.{◌≡◌, ◌∙◌, ℕ, List, [], refl, ap, ap₂}
use Rattle.cmd_frame.specs.Outputs.{OutputView, Text}
use Rattle.cmd_frame.specs.declared.outputs.Ending.{Ending}
use Rattle.cmd_plain.specs.Runs.{ending_by}
use Rattle.run_drill.specs.Drilled.{drilled}
use Rattle.def_language.specs.Sessions.{SessionData}
use Rattle.chase_update.specs.Results.{ResultTold}
use Rattle.lang_report.specs.Results.{serial_told}
use Rattle.run_drill.specs.Summaries.{summary_text}
use Rattle.cmd_threads.specs.Drilling.{drill_told, drilling, generated, summary_output}

-- the run of a session tells what the serial machine tells of it
pub tells : (m n : ℕ) (r s : SessionData) (told : ResultTold) → told ≡ serial_told m r → m ≡ n → r ≡ s → told ≡ serial_told n s
tells m n r s told is steps same = is ∙ ap₂ serial_told steps same

drilled_is : (count seed : ℕ) → drilled count seed ≡ generated count seed
unfolding generated
drilled_is count seed = refl

-- so with the generated session
pub tells_drilled : (n count seed : ℕ) (s : SessionData) (told : ResultTold) → told ≡ serial_told n s → s ≡ drilled count seed → told ≡ drill_told n count seed
unfolding drill_told
tells_drilled n count seed s told is same = is ∙ ap (serial_told n) (same ∙ drilled_is count seed)

-- the summary is printed
pub printed : (n count seed : ℕ) (told : ResultTold) (e : Ending) (text : List ℕ) → n ≡ count → e ≡ ending_by told.stop → text ≡ summary_text n seed told
    → Text e text ≡ summary_output count seed told
unfolding summary_output
printed n count seed told e text same ending is = ap₂ (λ (x : Ending) (l : List ℕ). Text x l) ending (is ∙ ap (λ (m : ℕ). summary_text m seed told) same)

-- that is an output of the command
pub made : (steps count seed : ℕ) (told : ResultTold) (output : OutputView) → told ≡ drill_told steps count seed → output ≡ summary_output count seed told
    → drilling steps count seed [] output
unfolding drilling
made steps count seed told output tells is = is ∙ ap (summary_output count seed) tells
