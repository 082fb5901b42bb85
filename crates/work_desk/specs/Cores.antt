-- What a desk asks of the core inside its lock.
use Rattle.std.specs.Prelude.{◌≡◌, ℕ, suc, ◌≤◌, not, ◌&&◌, List, take, drop, length, Option, Some}
use Rattle.def_machine.specs.Updates.{Update, committed}
use Rattle.def_machine.specs.Standings.{standing, is_ready, lowest_that, lowest_deliverable}
use Rattle.def_machine.specs.Cascade.{has_number}
use Rattle.def_machine.specs.Effects.{Steps, Delivers}
use Rattle.def_history.specs.Cores.{Ground, machine, updates_after, entries_over, grown}
use Rattle.def_history.specs.PlainEntries.{PlainEntry}
use Rattle.def_history.specs.Spares.{AllSpare}
use Rattle.def_history.specs.Stale.{IsReadyAt}

-- After these entries the lowest ready update that is not among those in flight.
abbrev pub lowest_idle : Ground → List PlainEntry → List ℕ → Option ℕ
lowest_idle g H busy =
    lowest_that (λ i u. is_ready (standing (machine g) g.settings (committed (machine g) (updates_after g H)) i u) && not (has_number busy i)) 1
    (updates_after g H)

-- After these entries the lowest update that an answer can be delivered to.
abbrev pub lowest_waiting : Ground → List PlainEntry → Option ℕ
lowest_waiting g H = lowest_deliverable (machine g) g.settings (updates_after g H)

-- After these entries the update is ready.
pub record IsReady (g : Ground) (H : List PlainEntry) (u : ℕ) : Type 0 where
  pub place : ℕ
  pub number : u ≡ suc place
  pub update : Update (machine g)
  pub ready : IsReadyAt (machine g) g.settings (updates_after g H) place update

-- A delivery to the update turns the entries H into K.
abbrev pub IsDelivery : Ground → List PlainEntry → ℕ → List PlainEntry → Type 0
IsDelivery g H u K = grown g H (Delivers u) ≡ Some K

-- A step of the update turns the entries H into K.
abbrev pub IsStep : Ground → List PlainEntry → ℕ → List PlainEntry → Type 0
IsStep g H u K = grown g H (Steps u) ≡ Some K

-- The fact `holds` is true of the update after the first n entries, and no later entry is a step or a withdrawal of it.
pub record HoldsSince (holds : Ground → List PlainEntry → ℕ → Type 0) (g : Ground) (H : List PlainEntry) (n u : ℕ) : Type 0 where
  pub stamped : n ≤ length H
  pub then : holds g (take n H) u
  pub spared : AllSpare {M = machine g} u (drop n (entries_over g H))

-- For every update: if the fact was true after the first n entries, and no later entry is the update's step or withdrawal, it is
-- still true.
abbrev pub StaysSince : (Ground → List PlainEntry → ℕ → Type 0) → Ground → List PlainEntry → ℕ → Type 0
StaysSince holds g H n = (u : ℕ) → HoldsSince holds g H n u → holds g H u

-- At every state, the plan is the step of every update that the snapshot stands for.
abbrev pub IsPlanOf : {S P : Type 0} → (S → Ground → List PlainEntry → ℕ → Type 0) → (P → Ground → List PlainEntry → ℕ → Type 0) → S → P → Type 0
IsPlanOf snapshot_holds plan_holds s p = (g : Ground) (H : List PlainEntry) (u : ℕ) → snapshot_holds s g H u → plan_holds p g H u

module _ {C : Type 0} (over : C → Ground) (history : C → List PlainEntry) where
  -- The core `new` is `old` after a delivery to the update.
  abbrev pub HasDelivered : C → C → ℕ → Type 0
  HasDelivered old new u = IsDelivery (over old) (history old) u (history new)

  -- The core `new` is `old` after the step of any update for which `holds` is true.
  abbrev pub HasStep : C → C → (Ground → List PlainEntry → ℕ → Type 0) → Type 0
  HasStep old new holds = (u : ℕ) → holds (over old) (history old) u → IsStep (over old) (history old) u (history new)

  -- What was true of an update after the first n entries of the core's history is still true, if no later entry is its step or
  -- withdrawal.
  abbrev pub HasStayed : C → (Ground → List PlainEntry → ℕ → Type 0) → ℕ → Type 0
  HasStayed c holds n = StaysSince holds (over c) (history c) n
