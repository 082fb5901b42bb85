-- Tickets that are still out, and with which no step was made.
use Rattle.std.specs.Prelude.{◌≡◌, false, ◌++◌, Some}
use Rattle.def_machine.specs.Machine.{Machine}
use Rattle.def_record.specs.Items.{Record, entries_in}
use Rattle.def_record.specs.Tickets.{Ticket}
use Rattle.def_record.specs.Records.{Now, IsOpen, after_items, now_of, IsRecord}
use Rattle.def_history.specs.Spares.{AllSpare}
use Rattle.def_record.specs.Stays.{IsOut}

-- Whichever seats went on since the ticket was given, and with whatever other tickets, its update made no step and was not
-- withdrawn.
abbrev pub HeldLaw : Machine → Type 0
HeldLaw M =
    (before rest : Record M) (n : Now M) (t : Ticket) → IsRecord (before ++ rest) → now_of before ≡ Some n → IsOpen n → IsOut t n → t.used ≡ false
    → IsOut t (after_items n rest) → AllSpare t.update (entries_in rest)
