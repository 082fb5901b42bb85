-- The end of a desk.
use Rattle.std.specs.Prelude.{◌≡◌, ℕ, true, List, ◌++◌, map, length}
use Rattle.std.specs.List.{list_all}
use mathlib.Core.Option.{some}
use lib.ListN.{get_elem?}
use Rattle.def_machine.specs.Histories.{event_of}
use Rattle.def_machine.specs.Recorded.{is_recorded}
use Rattle.work_lock.specs.Seats.{AllWithin}
use Rattle.def_record.specs.Items.{entries_in}
use Rattle.def_record.specs.Records.{Now}
use Rattle.def_record.specs.Results.{EndsWithResult}
use Rattle.def_history.specs.Admissible.{IsAdmissible}
use Rattle.def_history.specs.Cores.{Ground, machine, session_over, entries_over, updates_after, IsLegalOver}
use Rattle.def_history.specs.PlainEntries.{PlainEntry}
use Rattle.work_desk.specs.declared.desk.Desk.{Desk}
use Rattle.work_desk.specs.Shared.{Items, StandsAt, opening_items}
use Rattle.work_desk.specs.Seats.{DeskSeat, IsSeatOf, IsResting}

-- Each of the seats is one of the desk's.
abbrev pub AllSeatsOf : {C S P : Type 0} → (C → Ground) → (C → List PlainEntry) → Desk C S P → List DeskSeat → Type 0
AllSeatsOf over history d seats = (k : ℕ) (s : DeskSeat) → get_elem? seats k ≡ some s → IsSeatOf over history d s

-- What each of the seats has seen is at rest.
abbrev pub AllResting : List DeskSeat → Type 0
AllResting seats = (k : ℕ) (s : DeskSeat) → get_elem? seats k ≡ some s → IsResting s

-- A desk over g that was opened at the entries H ends at the entries K. Its items begin with the opening and are a record; their
-- entries are K. They begin with what each seat has seen, and go on by items of the other seats.
pub record HasClosed (g : Ground) (H K : List PlainEntry) (seats : List DeskSeat) : Type 0 where
  pub later : Items
  pub now : Now (machine g)
  pub stands : StandsAt g (opening_items g H ++ later) now
  pub entries : entries_in (opening_items g H ++ later) ≡ K
  pub within : AllWithin (length seats) (opening_items g H ++ later) seats

-- The entries H admit all updates of a session that the theorem on histories is about, with recorded answers alone.
pub record IsWhole (g : Ground) (H : List PlainEntry) : Type 0 where
  pub fit : IsAdmissible g.rules g.budget (session_over g)
  pub recorded : list_all is_recorded (map event_of (entries_over g H)) ≡ true
  pub all : length (updates_after g H) ≡ length (session_over g).submissions

-- The entries K are a legal history that begins with H, goes on by steps and deliveries alone and ends quiet. Their result is the
-- serial machine's on the session. In the repository that they leave every mapping in force holds, and outer forms tell its
-- tuples apart.
abbrev pub Ends : Ground → List PlainEntry → List PlainEntry → Type 0
Ends g H K = EndsWithResult g.rules g.budget g.settings (session_over g) (entries_over g H) (entries_over g K)

module _ {C : Type 0} (over : C → Ground) (history : C → List PlainEntry) where
  -- A desk that was opened over the core `opened` ends with the core `closed`.
  abbrev pub Closes : C → C → List DeskSeat → Type 0
  Closes opened closed seats = HasClosed (over opened) (history opened) (history closed) seats

  -- If the whole session was admitted at the opening, and each seat is at rest, the desk ends with the serial machine's result.
  abbrev pub ClosesSerially : C → C → List DeskSeat → Type 0
  ClosesSerially opened closed seats =
      IsLegalOver (over opened) (history opened) → IsWhole (over opened) (history opened) → AllResting seats → Ends (over opened) (history opened) (history closed)
