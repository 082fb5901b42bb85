-- A ticket stays out while other seats go on.
use Rattle.std.specs.Prelude.{◌≡◌, ◌++◌, Some}
use Rattle.def_machine.specs.Machine.{Machine}
use Rattle.def_history.specs.Spares.{AllSpare}
use Rattle.def_record.specs.Makers.{Unmade}
use Rattle.def_record.specs.Items.{Record, entries_in}
use Rattle.def_record.specs.Tickets.{Ticket, ticket_of}
use Rattle.def_record.specs.Records.{Now, IsOpen, after_items, now_of, IsRecord}

-- The ticket is out.
abbrev pub IsOut : {M : Machine} → Ticket → Now M → Type 0
IsOut t n = ticket_of t.update n.out ≡ Some t

-- The properties of a ticket that is out, after items of other seats.
pub record StaysOut (M : Machine) (t : Ticket) (n : Now M) (rest : Record M) : Type 0 where
  pub out : IsOut t (after_items n rest)
  -- the ticket's update made no step and was not withdrawn
  pub spared : AllSpare t.update (entries_in rest)
  pub history : (after_items n rest).history ≡ n.history ++ entries_in rest

-- This holds for every ticket.
abbrev pub StayLaw : Machine → Type 0
StayLaw M =
    (seen rest : Record M) (n : Now M) (t : Ticket) → IsRecord (seen ++ rest) → now_of seen ≡ Some n → IsOpen n → IsOut t n
    → Unmade t.maker rest → (now_of (seen ++ rest) ≡ Some (after_items n rest)) × StaysOut M t n rest
