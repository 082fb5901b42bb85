use Rattle.std.proofs.Common.{◌≡◌, map}
use Rattle.work_lock.specs.Seats.{place_of}
use Rattle.try_desk.specs.Hands.{IsTable, seats_on}
use Rattle.try_desk.proofs.plays.led.Given as goal

abbrev pub invariant-loop : goal.invariant-loop
invariant-loop g l = IsTable g.C.Core.over g.C.Core.history g.C.Core.is_snapshot g.C.Core.is_plan l.desk l.table
    × (map place_of (seats_on l.table) ≡ map place_of (seats_on l.initial.table))
