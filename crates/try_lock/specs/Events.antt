-- A board's history: tickets given and returned, each with the seat that made the entry.
use Rattle.std.specs.Prelude.{◌≡◌, ℕ, ◌<◌, List, map, sum_by, Some}
use Rattle.def_record.specs.declared.made.Made.{Made}
use Rattle.def_record.specs.Makers.{weight_for, sum_made_by}
use Rattle.try_lock.specs.declared.board.Event.{Event}
use Rattle.try_lock.specs.declared.board.Event.TheVariants.{Gave, Returned}
use Rattle.try_lock.specs.declared.board.Item.{Item}

-- the history that items stand for
abbrev pub made_of : Item → Made Event
made_of i = record { entry = i.event; maker = Some i.maker }

abbrev pub made_all : List Item → List (Made Event)
made_all items = map made_of items

-- how many tickets an event gives; then, how many it returns
abbrev pub tickets_out : Event → ℕ
tickets_out (Gave n) = 1
tickets_out (Returned n) = 0

abbrev pub tickets_back : Event → ℕ
tickets_back (Gave n) = 0
tickets_back (Returned n) = 1

-- how many tickets the seat j was given; then, how many it returned
abbrev pub given_to : ℕ → List (Made Event) → ℕ
given_to j history = sum_made_by tickets_out j history

abbrev pub returned_by : ℕ → List (Made Event) → ℕ
returned_by j history = sum_made_by tickets_back j history

-- how often the seat j is among these seats
abbrev pub count_for : ℕ → List ℕ → ℕ
count_for j seats = sum_by (λ m. weight_for j (Some m) 1) seats

-- the seat j holds a ticket
abbrev pub IsHeld : ℕ → List (Made Event) → Type 0
IsHeld j history = returned_by j history < given_to j history

-- no ticket is out
abbrev pub NoneOut : List (Made Event) → Type 0
NoneOut history = (j : ℕ) → given_to j history ≡ returned_by j history
