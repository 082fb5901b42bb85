use Rattle.std.proofs.Common.{◌≡◌, find, length}
use Rattle.base_tree.specs.Orders.{IsOrdered, is_at}
use Rattle.base_tree.proofs.branch.Branch.get.Given as goal

abbrev pub invariant-loop-here : goal.invariant-loop-here
invariant-loop-here g l = IsOrdered g.K.Ord.cmp l.here × (find (is_at g.K.Ord.cmp l.key) l.self ≡ find (is_at g.K.Ord.cmp l.key) l.here)

abbrev pub decreases-loop-here : goal.decreases-loop-here
decreases-loop-here g l = length l.here
