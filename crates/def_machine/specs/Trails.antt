-- The trails are the writes in the entries of the present attempts.
use Rattle.std.specs.Prelude.{◌≡◌, ℕ, suc, ◌==◌, false, ◌&&◌, if◌then◌else◌, List, [], ◌∷◌, ◌++◌, Some, slice_get}
use Rattle.def_machine.specs.Machine.{Machine}
use Rattle.def_machine.specs.Updates.{Update, Session, Settings, hides, trail}
use Rattle.def_machine.specs.Effects.{Event, Entry, Admitted, Stepped, Delivered, Answered, Withdrew}
use Rattle.def_machine.specs.Histories.{Log, empty_log, after}

-- The writes in an entry, if it is of this attempt of this update.
abbrev pub writes_by : {M : Machine} → ℕ → ℕ → Entry M → List M.Write
writes_by i a (Admitted j) = []
writes_by i a (Stepped e) = if (e.update == i) && (e.attempt == a) then e.writes else []
writes_by i a (Delivered j s) = []
writes_by i a (Answered j c s) = []
writes_by i a (Withdrew j cs n) = []

-- The writes in the entries of this attempt of this update, in order.
abbrev pub written : {M : Machine} → ℕ → ℕ → List (Entry M) → List M.Write
written i a [] = []
written i a (e ∷ es) = writes_by i a e ++ written i a es

-- The entries have the writes of the updates that they led to.
pub record IsTold (M : Machine) (l : Log M) : Type 0 where
  -- an attempt that did not end spent or refused has made the writes in its entries
  pub own : (k : ℕ) (u : Update M) → slice_get l.updates k ≡ Some u → hides (M.outcome u.state) ≡ false
      → M.own u.state ≡ written (suc k) u.attempt l.entries
  -- so these are the trail of an update that is not withdrawn
  pub trail : (k : ℕ) (u : Update M) → slice_get l.updates k ≡ Some u → hides (M.outcome u.state) ≡ false
      → u.withdrawn ≡ false → trail M u ≡ written (suc k) u.attempt l.entries

-- This holds after every history.
abbrev pub TrailLaw : Machine → Type 0
TrailLaw M =
    (s : Settings) (S : Session M) (es : List (Event M)) (l : Log M) → M.Sound S.base
    → after M s S (empty_log M) es ≡ Some l → IsTold M l
