-- Legal histories: lists of entries, each the entry of an event that is allowed after the entries before it.
use Rattle.std.specs.Prelude.{◌≡◌, List, [], ◌∷◌, ◌++◌, map, Option, Some, option_and_then}
use Rattle.def_machine.specs.Machine.{Machine}
use Rattle.def_machine.specs.Updates.{Update, Session, Settings}
use Rattle.def_machine.specs.Cascade.{Cause}
use Rattle.def_machine.specs.Effects.{Event, Admits, Steps, Delivers, Answers, Withdraws, Entry, Admitted, Stepped, Delivered, Answered, Withdrew, Effect, effect}

-- The updates, and the entries of the events that led to them.
pub record Log (M : Machine) : Type 0 where
  pub updates : List (Update M)
  pub entries : List (Entry M)

-- The updates after the event, and the entries with its entry at the end.
abbrev pub with_entry : (M : Machine) → List (Entry M) → Effect M → Log M
with_entry M entries e = record { updates = e.updates; entries = entries ++ e.entry ∷ [] }

-- The log after the events, if each is allowed in turn.
abbrev pub after : (M : Machine) → Settings → Session M → Log M → List (Event M) → Option (Log M)
after M s S l [] = Some l
after M s S l (e ∷ es) = option_and_then (λ x. after M s S (with_entry M l.entries x) es) (effect M s S l.updates e)

-- The log before any event.
abbrev pub empty_log : (M : Machine) → Log M
empty_log M = record { updates = []; entries = [] }

-- The event that an entry records.
abbrev pub event_of : {M : Machine} → Entry M → Event M
event_of (Admitted i) = Admits
event_of (Stepped e) = Steps e.update
event_of (Delivered i s) = Delivers i
event_of (Answered i c s) = Answers i c
event_of (Withdrew i cs n) = Withdraws i

-- The entries are a legal history that leaves these updates: the events that they record are allowed in turn, and have exactly
-- these entries.
abbrev pub IsLegal : (M : Machine) → Settings → Session M → List (Entry M) → List (Update M) → Type 0
IsLegal M s S entries updates = after M s S (empty_log M) (map event_of entries) ≡ Some (record { updates = updates; entries = entries })

-- The causes in an entry.
abbrev pub causes_in : {M : Machine} → Entry M → List (Cause M)
causes_in (Admitted i) = []
causes_in (Stepped e) = e.causes
causes_in (Delivered i s) = []
causes_in (Answered i c s) = []
causes_in (Withdrew i cs n) = cs
