-- What an event leaves unchanged: the updates below the one that it acts on, and the committed ones.
use Rattle.std.specs.Prelude.{◌≡◌, ℕ, suc, ◌<◌, ◌≤◌, List, length, Some, slice_get}
use Rattle.def_machine.specs.Machine.{Machine}
use Rattle.def_machine.specs.Updates.{Update, Session, Settings, below, committed}
use Rattle.def_machine.specs.Effects.{Event, Admits, Steps, Delivers, Answers, Withdraws, Effect, effect}

-- The number of the update that the event acts on.
abbrev pub acts_on : {M : Machine} → List (Update M) → Event M → ℕ
acts_on us Admits = suc (length us)
acts_on us (Steps i) = i
acts_on us (Delivers i) = i
acts_on us (Answers i c) = i
acts_on us (Withdraws i) = i

-- With an event at update j, the updates below j stay unchanged, and so does the repository below each of them and below j.
-- Update j was not committed, and committed updates stay so.
pub record IsLocal (M : Machine) (D : M.Repository) (j : ℕ) (us vs : List (Update M)) : Type 0 where
  pub lower : (k : ℕ) → suc k < j → slice_get vs k ≡ slice_get us k
  pub below : (k : ℕ) → k < j → below M D vs k ≡ below M D us k
  pub uncommitted : committed M us < j
  pub grows : committed M us ≤ committed M vs

-- This holds for every allowed event.
abbrev pub LocalLaw : Machine → Type 0
LocalLaw M =
    (s : Settings) (S : Session M) (us : List (Update M)) (e : Event M) (x : Effect M) → effect M s S us e ≡ Some x
    → IsLocal M S.base (acts_on us e) us x.updates
