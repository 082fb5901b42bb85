use Rattle.ws_ground.proofs.Trailing.{came_not}
use Rattle.ws_ground.proofs.grounds.insert.Goals as goal

-- The tuple was there.
pub returns-else-branch-clause-made : goal.returns-else-branch-clause-made
returns-else-branch-clause-made c =
    came_not _ _ _ _ c.args.tuple _ c.is_in_order.ensures.in_order c.in_ok-insert.ensures.changed c.if-branch.false c.in_ok-insert.ensures.ok c.in_ok-reserve.ensures.same
