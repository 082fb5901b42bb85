-- Workers, their seats, and what a worker leaves.
use Rattle.std.specs.Prelude.{◌≡◌, ℕ, ◌<◌, List, map, length, slice_index_or}
use mathlib.Core.List.{IsPrefix}
use Rattle.work_lock.specs.declared.seat.Seat.{Seat}
use Rattle.work_lock.specs.Seats.{place_of, seen_of}
use Rattle.try_lock.specs.declared.board.Board.{Board}
use Rattle.try_lock.specs.declared.board.Event.{Event}
use Rattle.try_lock.specs.declared.desk.Desk.{Desk}
use Rattle.try_lock.specs.declared.worker.Worker.{Worker}
use Rattle.try_lock.specs.Own.{Owns}

-- the workers' seats, in order
abbrev pub seats_of : List Worker → List (Seat Board Event)
seats_of workers = map (λ w. w.seat) workers

-- the worker still has its seat, which is one of the desk's and has seen at least as much as before
pub record HasAttended (desk : Desk) (before after : Worker) : Type 0 where
  pub place : place_of after.seat ≡ place_of before.seat
  pub owns : Owns desk after.seat
  pub seen : IsPrefix (seen_of before.seat) (seen_of after.seat)

-- each of the workers has attended
abbrev pub HaveAttended : Desk → List Worker → List Worker → Type 0
HaveAttended desk before after = (i : ℕ) (d : Worker) → i < length before → HasAttended desk (slice_index_or before i d) (slice_index_or after i d)
