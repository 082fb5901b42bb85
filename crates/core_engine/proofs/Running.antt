-- The updates above an event's were their runs over what lay below them before it.
use Rattle.std.proofs.Common.{◌≡◌, ap, sym, subst, ℕ, suc, ◌+◌, ◌≤◌, Some, List, ◌∷◌, take, drop, length, map, arith}
use Rattle.std.specs.Prelude.{slice_get}
use Rattle.def_history.specs.Cores.{Ground, machine, session_over, entries_over, updates_after}
use Rattle.def_history.specs.PlainEntries.{PlainEntry}
use Rattle.def_machine.specs.Histories.{empty_log, event_of}
use Rattle.def_machine.specs.Runs.{AreRuns}
use Rattle.def_machine.specs.Updates.{Update, trail, below}
use Rattle.def_machine.proofs.Events.{after_runs}
use Rattle.def_machine.proofs.Places.{runs_above}
use Rattle.def_chase.specs.Repository.{apply}
use Rattle.core_queue.specs.Queues.{updates_of}
use Rattle.core_queue.specs.declared.updates.QueuedUpdate.{QueuedUpdate}
use Rattle.def_steps.proofs.ChaseLaws.{chase_laws}
use Rattle.def_steps.specs.Chase.{caused}
use Rattle.set_versions.specs.Standing.{Kept}
use Rattle.core_engine.specs.Kept.{IsKept}
use Rattle.core_engine.specs.Steps.{RanAbove}

module _ (g : Ground) (v : Kept) (rs : List QueuedUpdate) (H : List PlainEntry) (kept : IsKept g v rs H) where
  -- Each update of the queue is its run over what lies below it.
  all_run : AreRuns (machine g) g.base 1 (updates_of g.rules g.budget rs)
  all_run =
      subst (λ (us : List (Update (machine g))). AreRuns (machine g) g.base 1 us) kept.left.leaves
      (after_runs (machine g) (chase_laws caused g.rules g.budget kept.budget) g.settings (session_over g) (empty_log (machine g)) (record { updates = updates_after g H; entries = entries_over g H })
      (map event_of (entries_over g H)) kept.sorted tt kept.left.legal)

  -- So are those above one of them.
  pub ran_above : (k : ℕ) (u : Update (machine g)) → slice_get (updates_of g.rules g.budget rs) k ≡ Some u → length (take k (updates_of g.rules g.budget rs)) ≡ k
      → RanAbove g.rules g.budget g.base (take k (updates_of g.rules g.budget rs)) u (drop (suc k) (updates_of g.rules g.budget rs))
  ran_above k u there long =
      let us = updates_of g.rules g.budget rs in
      let e : suc (1 + k) ≡ suc (suc (length (take k us))) = omega (arith, long) in
      subst (λ (n : ℕ). AreRuns (machine g) (apply (below (machine g) g.base us k) (trail (machine g) u)) n (drop (suc k) us)) e
      (runs_above (machine g) (chase_laws caused g.rules g.budget kept.budget) g.base 1 k us u all_run there)
