-- What a line of a trace claims: an event, with the number of its update.
use Rattle.std.specs.Prelude.{ℕ, List, codes}
use Rattle.def_chase.specs.Updates.{Choice}

-- an admission, a step, a delivery, an answer by a person, a withdrawal
pub data Told : Type 0 where
  Admission : ℕ → Told
  Step : ℕ → Told
  Delivery : ℕ → Told
  Answer : ℕ → Choice → Told
  Withdrawal : ℕ → Told

-- the update's number
abbrev pub update_told : Told → ℕ
update_told (Admission u) = u
update_told (Step u) = u
update_told (Delivery u) = u
update_told (Answer u c) = u
update_told (Withdrawal u) = u

-- the name of the event
abbrev pub name_told : Told → List ℕ
name_told (Admission u) = codes "admitted"
name_told (Step u) = codes "stepped"
name_told (Delivery u) = codes "delivered"
name_told (Answer u c) = codes "answered"
name_told (Withdrawal u) = codes "withdrawn"
