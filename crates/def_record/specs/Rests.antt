-- If each seat has come to rest, the record ends at rest.
use Rattle.std.specs.Prelude.{◌≡◌, ℕ, ◌<◌, List, length, Some}
use mathlib.Core.Option.{some}
use lib.ListN.{get_elem?}
use Rattle.def_machine.specs.Machine.{Machine}
use Rattle.def_record.specs.Makers.{FollowsAmong}
use Rattle.def_record.specs.Items.{Record}
use Rattle.def_record.specs.Records.{Now, IsOpen, now_of, IsRecord}
use Rattle.def_record.specs.Answers.{IsAtRest}

-- A seat that has seen this much of the record is at rest: the desk is open, it is quiet, and no ticket is out.
pub record SeesRest (M : Machine) (seen : Record M) : Type 0 where
  pub now : Now M
  pub left : now_of seen ≡ Some now
  pub open_now : IsOpen now
  pub rest : IsAtRest M now

-- The parts of the record that the seats have seen: each is a prefix, after which no item is of the seat itself or of a seat
-- beyond these.
abbrev pub AreSeen : {M : Machine} → List (Record M) → Record M → Type 0
AreSeen {M} seen r = (k : ℕ) (xs : Record M) → get_elem? seen k ≡ some xs → FollowsAmong (length seen) k xs r

-- Each seat is at rest.
abbrev pub AllRest : {M : Machine} → List (Record M) → Type 0
AllRest {M} seen = (k : ℕ) (xs : Record M) → get_elem? seen k ≡ some xs → SeesRest M xs

-- If all seats are at rest, one of them has seen the whole record, so the record is at rest.
abbrev pub RestLaw : Machine → Type 0
RestLaw M =
    (r : Record M) (seen : List (Record M)) → IsRecord r → 0 < length seen → AreSeen seen r → AllRest seen → SeesRest M r
