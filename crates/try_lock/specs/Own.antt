-- When a seat, a ticket or a plan is the desk's.
use Rattle.std.specs.Prelude.{◌≡◌, ℕ, ◌*◌, ◌%◌, ◌^◌}
use Rattle.work_lock.specs.declared.seat.Seat.{Seat}
use Rattle.work_lock.specs.Lock.{lock_id}
use Rattle.work_lock.specs.Seats.{lock_of, number_of, seen_of, IsAtRest}
use Rattle.try_lock.specs.declared.board.Board.{Board}
use Rattle.try_lock.specs.declared.board.Event.{Event}
use Rattle.try_lock.specs.declared.board.Ticket.{Ticket}
use Rattle.try_lock.specs.declared.desk.Desk.{Desk}
use Rattle.try_lock.specs.Events.{IsHeld, NoneOut}

-- the seat is one of the desk's lock, and holds no turn
abbrev pub Owns : Desk → Seat Board Event → Type 0
Owns d s = (lock_of s ≡ lock_id d.lock) × IsAtRest s

-- the seat holds a ticket
abbrev pub IsOut : Desk → Seat Board Event → Ticket → Type 0
IsOut d s t = IsHeld (number_of s) (seen_of s)

-- the plan is the ticket's number, squared
abbrev pub IsPlan : Ticket → ℕ → Type 0
IsPlan t n = n ≡ (t.number * t.number) % 2 ^ 64

-- no ticket is out in what the seat has seen
abbrev pub Rests : Seat Board Event → Type 0
Rests s = NoneOut (seen_of s)
