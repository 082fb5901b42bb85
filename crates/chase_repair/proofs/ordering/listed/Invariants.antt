use Rattle.std.proofs.Common.{◌≡◌, ◌++◌, length}
use Rattle.chase_repair.proofs.ordering.listed.Given as goal

-- What is listed and what is left are all.
abbrev pub invariant-loop-item : goal.invariant-loop-item
invariant-loop-item g l = l.list.items ++ l.left.keys ≡ l.fn.set.keys

-- How many are left.
abbrev pub decreases-loop-item : goal.decreases-loop-item
decreases-loop-item g l = length l.left.keys
