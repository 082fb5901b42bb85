use Rattle.try_lock.proofs.Boards.{returns_one, returned_one}
use Rattle.try_lock.proofs.board.Board.take_back.Goals as goal

pub invariant_of-self-clause-balanced : goal.invariant_of-self-clause-balanced
invariant_of-self-clause-balanced c j =
    let found = rw c.as_slice.ensures.value at c.in-Some.ensures.found in
    returns_one j _ _ _ _ _ _ _ c.push_reserved.ensures.items found.0 found.1 c.remove.ensures.items (c.args.self.now.balanced j)

pub returns-clause-given : goal.returns-clause-given
returns-clause-given c = (returned_one _ _ _ _ c.push_reserved.ensures.items).0

pub returns-clause-returned : goal.returns-clause-returned
returns-clause-returned c = (returned_one _ _ _ _ c.push_reserved.ensures.items).1
