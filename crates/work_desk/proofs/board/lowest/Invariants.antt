use Rattle.std.proofs.Common.{◌≡◌, None, drop}
use Rattle.work_desk.specs.Turns.{least}
use Rattle.work_desk.proofs.board.lowest.Given as goal

-- the least of those that are left, beside the least so far, is the least of all
abbrev pub invariant-loop-number : goal.invariant-loop-number
invariant-loop-number l = least l.low (drop l.number-index l.numbers) ≡ least None l.numbers
