use Rattle.std.proofs.Common.{◌≡◌, ◌++◌, filter, length}
use Rattle.base_tree.specs.Orders.{IsOrdered, is_reached}
use Rattle.base_tree.specs.Rests.{pending, IsPath}
use Rattle.base_tree.proofs.cursors.descend.Given as goal

abbrev pub invariant-loop-here : goal.invariant-loop-here
invariant-loop-here g l =
    IsOrdered g.K.Ord.cmp l.here × IsPath g.K.Ord.cmp l.path.items
    × (filter (is_reached (g.C.Cut.reaches l.cut)) l.here ++ pending l.path.items ≡ filter (is_reached (g.C.Cut.reaches l.cut)) l.branch ++ pending l.initial.path.items)

abbrev pub decreases-loop-here : goal.decreases-loop-here
decreases-loop-here g l = length l.here
