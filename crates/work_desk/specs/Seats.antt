-- A desk and its seats.
use Rattle.std.specs.Prelude.{◌≡◌, List, [], ◌∷◌, ◌++◌, Option, Some, None}
use Rattle.atomic_table.specs.Seated.{TableId}
use Rattle.work_lock.specs.declared.seat.Seat.{Seat}
use Rattle.work_lock.specs.Lock.{lock_id}
use Rattle.work_lock.specs.Seats.{lock_of, seen_of, IsAtRest}
use Rattle.def_record.specs.declared.item.Item.{Item}
use Rattle.def_record.specs.declared.item.Item.TheVariants.{Opened, Entered, Gave, Returned}
use Rattle.def_record.specs.Rests.{SeesRest}
use Rattle.def_history.specs.Cores.{Ground, machine}
use Rattle.def_history.specs.PlainEntries.{PlainEntry}
use Rattle.work_desk.specs.declared.desk.Desk.{Desk}
use Rattle.work_desk.specs.Shared.{Items, Shared, record_over, opening_items}

-- A seat of a desk, over any core.
abbrev pub DeskSeat : Type 0
DeskSeat = Seat Shared (Item Ground PlainEntry)

-- What the core of a desk is over, if this is the first item of the desk.
abbrev pub over_in : Item Ground PlainEntry → Option Ground
over_in (Opened g n) = Some g
over_in (Entered e) = None
over_in (Gave t u) = None
over_in (Returned t) = None

abbrev pub first_over : Items → Option Ground
first_over [] = None
first_over (i ∷ is) = over_in i.entry

-- In what the seat has seen, nothing is left to do.
abbrev pub IsResting : DeskSeat → Type 0
IsResting s = (g : Ground) × (first_over (seen_of s) ≡ Some g) × SeesRest (machine g) (record_over g (seen_of s))

-- The items of a desk that was just opened over the core.
abbrev pub opening_by : {C : Type 0} → (C → Ground) → (C → List PlainEntry) → C → Items
opening_by over history core = opening_items (over core) (history core)

module _ {C S P : Type 0} where
  -- the lock that the desk's seats are of
  abbrev pub desk_lock : Desk C S P → TableId
  desk_lock d = lock_id d.lock

  -- the core that the desk was opened over
  abbrev pub core_of : Desk C S P → C
  core_of d = d.opened.value

  -- The seat is one of the desk's: it is a seat of its lock, holds no turn, and has seen the opening.
  pub record IsSeatOf (over : C → Ground) (history : C → List PlainEntry) (d : Desk C S P) (s : DeskSeat) : Type 0 where
    pub lock : lock_of s ≡ desk_lock d
    pub rest : IsAtRest s
    pub later : Items
    pub saw : opening_by over history (core_of d) ++ later ≡ seen_of s
