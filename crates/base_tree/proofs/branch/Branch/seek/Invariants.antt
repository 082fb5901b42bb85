use Rattle.std.proofs.Common.{◌≡◌, find, length}
use Rattle.std.specs.Option.{option_copied, option_or}
use Rattle.base_tree.specs.Orders.{IsOrdered, is_reached}
use Rattle.base_tree.proofs.branch.Branch.seek.Given as goal

abbrev pub invariant-loop-here : goal.invariant-loop-here
invariant-loop-here g l =
    IsOrdered g.K.Ord.cmp l.here × (find (is_reached (g.C.Cut.reaches l.cut)) l.self ≡ option_or (find (is_reached (g.C.Cut.reaches l.cut)) l.here) (option_copied l.best))

abbrev pub decreases-loop-here : goal.decreases-loop-here
decreases-loop-here g l = length l.here
