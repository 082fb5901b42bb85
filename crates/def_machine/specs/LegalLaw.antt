-- A legal history with the entry of an allowed event is legal, and so is each prefix.
use Rattle.std.specs.Prelude.{◌≡◌, List, [], ◌∷◌, ◌++◌, Some}
use Rattle.def_machine.specs.Machine.{Machine}
use Rattle.def_machine.specs.Updates.{Update, Session, Settings}
use Rattle.def_machine.specs.Effects.{Event, Entry, Effect, effect}
use Rattle.def_machine.specs.Histories.{IsLegal}

-- The properties of the legal histories over a session.
pub record AreLegal (M : Machine) (s : Settings) (S : Session M) : Type 0 where
  pub empty : IsLegal M s S [] []
  pub grows : (H : List (Entry M)) (us : List (Update M)) (e : Event M) (x : Effect M) → IsLegal M s S H us
      → effect M s S us e ≡ Some x → IsLegal M s S (H ++ x.entry ∷ []) x.updates
  pub prefix : (H J : List (Entry M)) (us : List (Update M)) → IsLegal M s S (H ++ J) us → (vs : List (Update M)) × IsLegal M s S H vs
  -- a history leaves one list of updates only
  pub single : (H : List (Entry M)) (us vs : List (Update M)) → IsLegal M s S H us → IsLegal M s S H vs → us ≡ vs

-- This holds for all settings and sessions.
abbrev pub LegalLaw : Machine → Type 0
LegalLaw M = (s : Settings) (S : Session M) → AreLegal M s S
