-- The entries of a legal history determine the trails of its updates, and whether a step that was planned earlier is still the
-- step.
use Rattle.std.specs.Prelude.{◌≡◌, ℕ, suc, ◌≤◌, List, map, take, drop, length, None, Some, slice_get}
use Rattle.def_machine.specs.Updates.{Update, trail, below}
use Rattle.def_machine.specs.Steps.{step_log}
use Rattle.def_chase.specs.Queries.{Query}
use Rattle.def_chase.specs.Repository.{IsRepository}
use Rattle.chase_query.specs.Meanings.{Read}
use Rattle.def_history.specs.Cores.{Ground, machine, entries_over, updates_after, IsLegalOver}
use Rattle.def_history.specs.PlainEntries.{PlainEntry}
use Rattle.def_history.specs.Spares.{AllSpare}
use Rattle.def_history.specs.Stale.{IsReadyAt, IsStepStill}
use Rattle.work_stale.specs.Shown.{trail_by}
use Rattle.work_stale.specs.Stale.{stale_by}

-- The trail of each update is the one computed from the entries.
abbrev pub EntriesTellTheTrails : Type 0
EntriesTellTheTrails =
    (g : Ground) (H : List PlainEntry) (k : ℕ) (u : Update (machine g)) → 1 ≤ g.budget → IsRepository g.base → IsLegalOver g H
    → slice_get (updates_after g H) k ≡ Some u → trail (machine g) u ≡ trail_by (suc k) H

-- The attempt of a ready update does the update's operation.
abbrev pub ReadyAttemptsDoTheirUpdate : Type 0
ReadyAttemptsDoTheirUpdate =
    (g : Ground) (H : List PlainEntry) (k : ℕ) (u : Update (machine g)) → 1 ≤ g.budget → IsRepository g.base → IsLegalOver g H
    → IsReadyAt (machine g) g.settings (updates_after g H) k u → u.state.operation ≡ u.operation

-- The queries of reads, in order.
abbrev pub queries_of : List Read → List Query
queries_of reads = map (λ (r : Read). r.query) reads

-- The queries of the next step of update k + 1, which is u, after these entries.
abbrev pub queries_next : (g : Ground) → List PlainEntry → ℕ → Update (machine g) → List Query
queries_next g H k u =
    map (λ r. r.query) (step_log (machine g) u.operation (below (machine g) g.base (updates_after g H) k) u.answers u.state)

-- After the first n entries update k + 1 was u, it was ready, and its next step asks the queries of these reads. No later entry
-- is a step or a withdrawal of it.
pub record WasPlanned (g : Ground) (H : List PlainEntry) (n k : ℕ) (u : Update (machine g)) (reads : List Read) : Type 0 where
  pub stamped : n ≤ length H
  pub ready : IsReadyAt (machine g) g.settings (updates_after g (take n H)) k u
  pub asks : queries_of reads ≡ queries_next g (take n H) k u
  pub spared : AllSpare {M = machine g} (suc k) (drop n (entries_over g H))

-- A step that was planned in this way is still the step, if no later entry makes it stale.
abbrev pub StepsStayUnlessStale : Type 0
StepsStayUnlessStale =
    (g : Ground) (H : List PlainEntry) (n k : ℕ) (u : Update (machine g)) (reads : List Read) → 1 ≤ g.budget → IsRepository g.base → IsLegalOver g H
    → WasPlanned g H n k u reads → stale_by g.rules (suc k) reads H n ≡ None
    → IsStepStill (machine g) g.settings g.base (updates_after g (take n H)) (updates_after g H) k u
