use Rattle.std.proofs.Common.{◌≡◌, ◌+◌}
use mathlib.Core.List.{IsPrefix}
use Rattle.work_loop.proofs.worker.work.Given as goal

-- the seat is the bench's own, in its place, and holds no ticket of those it was given here
abbrev pub invariant-loop : goal.invariant-loop
invariant-loop g l = g.B.Bench.owns l.bench l.seat
    × (g.B.Bench.lock l.seat ≡ g.B.Bench.lock l.initial.seat)
    × (g.B.Bench.seat_number l.seat ≡ g.B.Bench.seat_number l.initial.seat)
    × IsPrefix (g.B.Bench.seen l.initial.seat) (g.B.Bench.seen l.seat)
    × (g.B.Bench.spent l.seat + g.B.Bench.given l.initial.seat ≡ g.B.Bench.given l.seat + g.B.Bench.spent l.initial.seat)
