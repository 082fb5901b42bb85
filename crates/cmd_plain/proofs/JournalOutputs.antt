-- What the command `journal` writes of what a run left.
use Rattle.std.proofs.Common.{◌≡◌, ◌∙◌, ℕ, ◌≤◌, ap, sym, subst, List, length, false, arith}
use Rattle.std.specs.Prelude.{if◌then◌else◌}
use Rattle.base_types.specs.Contents.{changes_of}
use Rattle.def_chase.proofs.Maps.{length_map}
use Rattle.cmd_frame.specs.Outputs.{Text, Refused}
use Rattle.cmd_frame.specs.declared.outputs.Ending.{Ending}
use Rattle.cmd_frame.specs.declared.outputs.Refusal.TheVariants.{TooLarge}
use Rattle.def_language.specs.Sessions.{SessionData}
use Rattle.def_language.specs.Validity.{IsSession}
use Rattle.run_laws.specs.Logged.{AreLogged, IsRun, commits_of, journal_of}
use Rattle.run_serial.specs.Trails.{IsTrailed, TrailsTold, trails_by, trails_of}
use Rattle.run_serial.specs.declared.trailing.Trailed.{Trailed}
use Rattle.cmd_plain.specs.Journaled.{is_too_long, journal_output}
use Rattle.cmd_plain.specs.Runs.{ending_by, too_large_line}

-- ---- the output

pub told_text : (s : SessionData) (left : TrailsTold) (e : Ending) (text : List ℕ) → e ≡ ending_by left.stop → text ≡ journal_of s left.trails → is_too_long text ≡ false
    → Text e text ≡ journal_output s left
told_text s left e text f here h =
    let short : is_too_long (journal_of s left.trails) ≡ false = ap is_too_long (sym here) ∙ h in
    (λ i. Text (f i) (here i)) ∙ sym (ap (λ b. if b then Refused TooLarge too_large_line else Text (ending_by left.stop) (journal_of s left.trails)) short)

-- ---- what the run left can be logged

pub run_of : (s : SessionData) (steps : ℕ) → IsSession s → 1 ≤ steps → steps ≤ 1000001 → IsRun steps s
run_of s steps v some most = record { session = v; some = some; most = most }

pub left_logged : (steps : ℕ) (s : SessionData) (left : Trailed) → IsTrailed steps s left → AreLogged s.relations (commits_of (trails_by steps s)) → AreLogged s.relations (commits_of (trails_of left.trails))
left_logged steps s left e logged = subst (λ ts. AreLogged s.relations (commits_of ts)) (sym (ap (λ (t : TrailsTold). t.trails) e)) logged

pub left_few : (steps : ℕ) (s : SessionData) (left : Trailed) → IsTrailed steps s left → length (trails_by steps s) ≤ length s.updates → length s.updates ≤ 1000 → length left.trails.items ≤ 1000
left_few steps s left e few all =
    let same : length (trails_of left.trails) ≡ length (trails_by steps s) = ap (λ (t : TrailsTold). length t.trails) e in
    let items : length (trails_of left.trails) ≡ length left.trails.items = length_map changes_of left.trails.items in
    omega arith
