use Rattle.try_lock.proofs.Boards.{extends_one, gives, given_one}
use Rattle.try_lock.proofs.board.Board.give.Goals as goal

pub invariant_of-self-2-clause-balanced : goal.invariant_of-self-2-clause-balanced
invariant_of-self-2-clause-balanced c j =
    let items = rw c.reserve.ensures.items at c.push_reserved.ensures.items in
    let holders = rw c.reserve-2.ensures.items at c.push_reserved-2.ensures.items in
    gives j _ _ _ _ _ _ items holders (c.args.self.now.balanced j)

pub returns-clause-extends : goal.returns-clause-extends
returns-clause-extends c = extends_one _ _ _ (rw c.reserve.ensures.items at c.push_reserved.ensures.items)

pub returns-clause-given : goal.returns-clause-given
returns-clause-given c = (given_one _ _ _ _ (rw c.reserve.ensures.items at c.push_reserved.ensures.items)).0

pub returns-clause-returned : goal.returns-clause-returned
returns-clause-returned c = (given_one _ _ _ _ (rw c.reserve.ensures.items at c.push_reserved.ensures.items)).1
