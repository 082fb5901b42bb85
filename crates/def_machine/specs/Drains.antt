-- A drain: as long as an update is ready or an answer can be delivered, a step of the lowest ready update, or else a delivery to
-- the lowest update that can have one.
use Rattle.std.specs.Prelude.{◌≡◌, ℕ, ◌≤◌, true, List, [], ◌∷◌, ◌++◌, length, Option, Some, None, is_none}
use Rattle.def_machine.specs.Machine.{Machine}
use Rattle.def_machine.specs.Updates.{Update, Session, Settings}
use Rattle.def_machine.specs.Standings.{lowest_ready, lowest_deliverable, is_quiet}
use Rattle.def_machine.specs.Effects.{Event, Steps, Delivers, Entry, Effect, effect}
use Rattle.def_machine.specs.Histories.{event_of, IsLegal}
use Rattle.def_machine.specs.Work.{work}

-- A step of the ready update, if there is one, or else a delivery to the deliverable one.
abbrev pub step_or_deliver : (M : Machine) → Option ℕ → Option ℕ → Option (Event M)
step_or_deliver M (Some i) d = Some (Steps i)
step_or_deliver M None (Some i) = Some (Delivers i)
step_or_deliver M None None = None

-- The next event of a drain, if there is one.
abbrev pub next_turn : (M : Machine) → Settings → List (Update M) → Option (Event M)
next_turn M s us = step_or_deliver M (lowest_ready M s us) (lowest_deliverable M s us)

-- Each entry is the entry of the next event of the drain, and together they lead from the updates us to vs.
abbrev pub AreTurns : (M : Machine) → Settings → Session M → List (Update M) → List (Entry M) → List (Update M) → Type 0
AreTurns M s S us [] vs = us ≡ vs
AreTurns M s S us (d ∷ ds) vs =
    (x : Effect M) × (next_turn M s us ≡ Some (event_of d)) × (effect M s S us (event_of d) ≡ Some x) × (x.entry ≡ d) × AreTurns M s S x.updates ds vs

-- The entries are a whole drain: at its end it is quiet.
pub record IsDrain (M : Machine) (s : Settings) (S : Session M) (us : List (Update M)) (ds : List (Entry M)) (vs : List (Update M)) : Type 0 where
  pub turns : AreTurns M s S us ds vs
  pub rests : is_quiet M s vs ≡ true

-- The properties of drains from the updates that a legal history left.
pub record AreDrains (M : Machine) (s : Settings) (S : Session M) (H : List (Entry M)) (us : List (Update M)) : Type 0 where
  -- there is a next event exactly if it is not quiet, and the event is allowed
  pub quiet : is_none (next_turn M s us) ≡ is_quiet M s us
  pub allowed : (e : Event M) → next_turn M s us ≡ Some e → (x : Effect M) × (effect M s S us e ≡ Some x)
  -- turns make a longer legal history
  pub legal : (ds : List (Entry M)) (vs : List (Update M)) → AreTurns M s S us ds vs → IsLegal M s S (H ++ ds) vs
  -- there is a drain, within the work that is left
  pub ends : (ds : List (Entry M)) × (vs : List (Update M)) × IsDrain M s S us ds vs × (length ds ≤ work M s us)

-- This holds after every legal history.
abbrev pub DrainLaw : Machine → Type 0
DrainLaw M =
    (s : Settings) (S : Session M) (H : List (Entry M)) (us : List (Update M)) → M.Sound S.base → IsLegal M s S H us
    → AreDrains M s S H us
