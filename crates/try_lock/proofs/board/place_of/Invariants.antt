use Rattle.std.proofs.Common.{◌≡◌, take}
use Rattle.try_lock.specs.Events.{count_for}
use Rattle.try_lock.proofs.board.place_of.Given as goal

-- the seat is none of those before
abbrev pub invariant-loop-place : goal.invariant-loop-place
invariant-loop-place l = count_for l.maker (take l.place l.holders) ≡ 0
