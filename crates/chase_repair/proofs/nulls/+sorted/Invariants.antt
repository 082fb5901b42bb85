use Rattle.std.proofs.Common.{length}
use Rattle.chase_repair.proofs.nulls.+sorted.Given as goal

-- How many nulls there are.
abbrev pub decreases-sorted : goal.decreases-sorted
decreases-sorted l = length l.nulls.now
