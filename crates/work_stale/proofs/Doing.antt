-- An attempt does what its update does.
use Rattle.std.proofs.Common.{◌≡◌, ℕ, zero, suc, ap, refl, subst, ◌∙◌, List, [], ◌∷◌, map, false, Some}
use Rattle.std.specs.Prelude.{slice_get}
use Rattle.std.proofs.lemmas.Option.{same_Some, none-some}
use Rattle.def_machine.specs.Machine.{Machine}
use Rattle.def_machine.specs.Updates.{Read, Update, trail, committed}
use Rattle.def_machine.specs.Histories.{empty_log, event_of}
use Rattle.def_machine.specs.Runs.{Reached, start, more, AreRuns}
use Rattle.def_machine.proofs.Events.{after_runs}
use Rattle.def_machine.proofs.Standing.{ready_parts}
use Rattle.def_chase.specs.Mappings.{Rule}
use Rattle.def_chase.specs.Values.{Fact}
use Rattle.def_chase.specs.Updates.{Operation, Choice}
use Rattle.def_steps.specs.Attempts.{Attempt}
use Rattle.def_steps.specs.Chase.{caused, caused_chase}
use Rattle.def_steps.proofs.ChaseLaws.{chase_laws}
use Rattle.def_history.specs.Cores.{machine, session_over, entries_over, updates_after}
use Rattle.work_stale.specs.Laws.{ReadyAttemptsDoTheirUpdate}

module _ (ms : List Rule) (B : ℕ) where
  abbrev M : Machine
  M = caused_chase ms B

  reached_by : (D : List Fact) (answers : List Choice) (n a : ℕ) (op : Operation) (P : Attempt) (log : List (Read M)) → Reached M D answers n a op P log → P.operation ≡ op
  reached_by D answers n a op P log start = refl
  reached_by D answers n a op P log (more {P = Q} {log = l} r o f) = reached_by D answers n a op Q l r

  does_at : (D : List Fact) (n : ℕ) (us : List (Update M)) (k : ℕ) (u : Update M) → AreRuns M D n us → slice_get us k ≡ Some u → u.withdrawn ≡ false → u.state.operation ≡ u.operation
  does_at D n [] k u r h p = absurd (none-some u h)
  does_at D n (v ∷ us) zero u r h p =
      let e : v ≡ u = same_Some v u h in
      subst (λ (w : Update M). w.state.operation ≡ w.operation) e (reached_by D v.answers n v.attempt v.operation v.state v.log (r.0.present (ap (λ (w : Update M). w.withdrawn) e ∙ p)))
  does_at D n (v ∷ us) (suc k) u r h p = does_at (M.apply D (trail M v)) (suc n) us k u r.1 h p

pub attempts_do : ReadyAttemptsDoTheirUpdate
attempts_do g H k u some sorted legal r =
    let M : Machine = machine g in
    let runs = after_runs M (chase_laws caused g.rules g.budget some) g.settings (session_over g) (empty_log M) (record { updates = updates_after g H; entries = entries_over g H }) (map event_of (entries_over g H)) sorted tt legal in
    does_at g.rules g.budget g.base 1 (updates_after g H) k u runs r.there (ready_parts M g.settings (committed M (updates_after g H)) (suc k) u r.ready).0.present
