use Rattle.ws_ground.proofs.Trailing.{went_not}
use Rattle.ws_ground.proofs.grounds.remove.Goals as goal

-- The tuple was not there.
pub returns-else-remove-clause-made : goal.returns-else-remove-clause-made
returns-else-remove-clause-made c =
    went_not _ _ _ _ c.args.tuple _ c.is_in_order.ensures.in_order c.remove.ensures.changed c.if-remove.false c.remove.ensures.after c.in_ok-reserve.ensures.same
