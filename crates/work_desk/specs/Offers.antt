-- What a desk as a bench does for a seat that asks for work.
use Rattle.std.specs.Prelude.{◌≡◌, ◌+◌, ℕ}
use mathlib.Core.List.{IsPrefix}
use Rattle.def_record.specs.Makers.{sum_made_by}
use Rattle.work_lock.specs.Seats.{place_of, number_of, seen_of}
use Rattle.work_desk.specs.Seats.{DeskSeat}
use Rattle.work_desk.specs.Turns.{gifts, returns}

-- How many tickets the seat was given; then, how many it has returned.
abbrev pub given_to : DeskSeat → ℕ
given_to s = sum_made_by gifts (number_of s) (seen_of s)

abbrev pub returned_by : DeskSeat → ℕ
returned_by s = sum_made_by returns (number_of s) (seen_of s)

-- From s to s' the seat keeps its place, has seen the same or more, and holds n tickets more.
pub record HoldsMore (n : ℕ) (s s' : DeskSeat) : Type 0 where
  pub place : place_of s' ≡ place_of s
  pub seen : IsPrefix (seen_of s) (seen_of s')
  pub held : given_to s' + returned_by s ≡ given_to s + returned_by s' + n
