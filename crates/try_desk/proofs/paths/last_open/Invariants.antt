use Rattle.std.proofs.Common.{length}
use Rattle.try_desk.proofs.paths.last_open.Given as goal

-- Each turn takes one pick away.
abbrev pub decreases-loop-taken : goal.decreases-loop-taken
decreases-loop-taken l = length l.picks.items
