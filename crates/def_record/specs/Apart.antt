-- Each update has at most one ticket out, and each number is given once.
use Rattle.std.specs.Prelude.{◌≡◌, ℕ, zero, suc, ◌<◌, ◌≤◌, List, [], ◌∷◌, ◌++◌, length, Some, None}
use Rattle.def_machine.specs.Machine.{Machine}
use Rattle.def_record.specs.declared.made.Made.{Made}
use Rattle.def_record.specs.declared.item.Item.{Item}
use Rattle.def_record.specs.declared.item.Item.TheVariants.{Opened, Entered, Gave, Returned}
use Rattle.def_record.specs.Items.{Record}
use Rattle.def_record.specs.Tickets.{Ticket, ticket_of, without}
use Rattle.def_record.specs.Records.{Now, now_of, IsRecord}

-- The numbers of the tickets rise, the first is above n, and each ticket is for another update than those after it.
abbrev pub AreApart : ℕ → List Ticket → Type 0
AreApart n [] = Unit {0}
AreApart n (t ∷ ts) = (n < t.number) × (ticket_of t.update ts ≡ None) × AreApart t.number ts

-- The tickets have numbers up to n.
abbrev pub AreGiven : ℕ → List Ticket → Type 0
AreGiven n [] = Unit {0}
AreGiven n (t ∷ ts) = (t.number ≤ n) × AreGiven n ts

-- The numbers 1, 2, .. up to n.
abbrev pub up_to : ℕ → List ℕ
up_to zero = []
up_to (suc n) = up_to n ++ suc n ∷ []

-- The number of the ticket that an item gives, if it gives one.
abbrev pub number_in : {O E : Type 0} → Item O E → List ℕ
number_in (Opened o n) = []
number_in (Entered e) = []
number_in (Gave t u) = t ∷ []
number_in (Returned t) = []

-- The numbers of the tickets that items give, in order.
abbrev pub numbers_in : {O E : Type 0} → List (Made (Item O E)) → List ℕ
numbers_in [] = []
numbers_in (i ∷ is) = number_in i.entry ++ numbers_in is

pub record HasTickets (M : Machine) (n : Now M) (r : Record M) : Type 0 where
  pub apart : AreApart 0 n.out
  pub given : AreGiven n.given n.out
  -- the tickets were given with the numbers 1, 2, .., each once
  pub once : numbers_in r ≡ up_to n.given
  -- the number of tickets given is less than the length of the record
  pub few : n.given < length r
  -- once a ticket is returned, its update is not in flight
  pub back : (t : Ticket) → ticket_of t.update n.out ≡ Some t → ticket_of t.update (without t.number t.maker n.out) ≡ None

-- This holds after every record.
abbrev pub ApartLaw : Machine → Type 0
ApartLaw M = (r : Record M) (n : Now M) → IsRecord r → now_of r ≡ Some n → HasTickets M n r
