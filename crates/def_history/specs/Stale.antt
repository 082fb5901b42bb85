-- When a step that was computed at an earlier state is still the update's step: as long as no later entry makes it stale.
use Rattle.std.specs.Prelude.{◌≡◌, ℕ, suc, true, false, List, [], ◌∷◌, ◌++◌, Some, slice_get}
use Rattle.std.specs.List.{AllByRecursion}
use Rattle.def_machine.specs.Machine.{Machine}
use Rattle.def_machine.specs.Updates.{Update, Read, Session, Settings, below, committed}
use Rattle.def_machine.specs.Standings.{standing, is_ready}
use Rattle.def_machine.specs.Cascade.{readers, has_number}
use Rattle.def_machine.specs.Steps.{next_move, step_log}
use Rattle.def_machine.specs.Effects.{Event, Entry, Effect, effect}
use Rattle.def_machine.specs.Histories.{event_of, causes_in, IsLegal}
use Rattle.def_machine.specs.Stamps.{IsUntouched}
use Rattle.def_history.specs.Spares.{AllSpare}

-- The event does not make a step of update k + 1 with these reads stale: below the update it adds or takes away no write in a
-- relation that a read mentions, and it does not restart the update.
pub record IsClear (M : Machine) (D : M.Repository) (us : List (Update M)) (e : Event M) (x : Effect M) (k : ℕ) (reads : List (Read M)) : Type 0 where
  pub untouched : AllByRecursion (λ (r : Read M). IsUntouched M D us e x k (M.mentions r.query)) reads
  pub kept : has_number (readers (causes_in x.entry)) (suc k) ≡ false

-- None of the entries makes the step stale; `us` are the updates before the first entry.
abbrev pub AllClear : (M : Machine) → Settings → Session M → List (Update M) → ℕ → List (Read M) → List (Entry M) → Type 0
AllClear M s S us k reads [] = Unit {0}
AllClear M s S us k reads (e ∷ es) =
    (x : Effect M) → effect M s S us (event_of e) ≡ Some x → IsClear M S.base us (event_of e) x k reads × AllClear M s S x.updates k reads es

-- Update k + 1 is u, and it is ready.
pub record IsReadyAt (M : Machine) (s : Settings) (us : List (Update M)) (k : ℕ) (u : Update M) : Type 0 where
  pub there : slice_get us k ≡ Some u
  pub ready : is_ready (standing M s (committed M us) (suc k) u) ≡ true

-- The step that u would make at the updates us is the one that it makes at vs.
pub record IsStepStill (M : Machine) (s : Settings) (D : M.Repository) (us vs : List (Update M)) (k : ℕ) (u : Update M) : Type 0 where
  pub now : IsReadyAt M s vs k u
  pub move : next_move M u.operation (below M D vs k) u.answers u.state ≡ next_move M u.operation (below M D us k) u.answers u.state
  pub reads : step_log M u.operation (below M D vs k) u.answers u.state ≡ step_log M u.operation (below M D us k) u.answers u.state

-- A ready update's step stays the same over any number of entries that spare its attempt, if none of them makes the step stale.
abbrev pub StaysLaw : Machine → Type 0
StaysLaw M =
    (s : Settings) (S : Session M) (H later : List (Entry M)) (us vs : List (Update M)) (k : ℕ) (u : Update M) → M.Sound S.base
    → IsLegal M s S H us → IsLegal M s S (H ++ later) vs → IsReadyAt M s us k u → AllSpare (suc k) later
    → AllClear M s S us k (step_log M u.operation (below M S.base us k) u.answers u.state) later → IsStepStill M s S.base us vs k u
