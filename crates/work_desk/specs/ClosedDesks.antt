-- What follows for a desk's record at the end of its lock.
use Rattle.std.specs.Prelude.{◌≡◌, ℕ, ◌<◌, List, length}
use mathlib.Core.Option.{some}
use lib.ListN.{get_elem?}
use Rattle.def_machine.specs.Machine.{Machine}
use Rattle.def_record.specs.declared.made.Made.{Made}
use Rattle.work_lock.specs.declared.seat.Seat.{Seat}
use Rattle.work_lock.specs.Seats.{seen_of, AllWithin}
use Rattle.def_record.specs.Items.{ItemOf}
use Rattle.def_record.specs.Marks.{meant}
use Rattle.def_record.specs.Records.{IsRecord}
use Rattle.def_record.specs.Rests.{SeesRest}

-- What each of the seats has seen is at rest.
abbrev pub AllSeeRest : {M : Machine} → {V E : Type 0} → (E → ItemOf M) → List (Seat V E) → Type 0
AllSeeRest {M} {V} {E} item seats = (k : ℕ) (s : Seat V E) → get_elem? seats k ≡ some s → SeesRest M (meant item (seen_of s))

-- If the clause `within` of `into_value` holds and every seat is at rest, the value's record is at rest.
abbrev pub ClosingLaw : Machine → Type 0 → Type 0 → Type 0
ClosingLaw M V E =
    (item : E → ItemOf M) (history : List (Made E)) (seats : List (Seat V E)) → 0 < length seats → IsRecord (meant item history)
    → AllWithin (length seats) history seats → AllSeeRest item seats → SeesRest M (meant item history)
