use Rattle.std.proofs.Common.{arith}
use Rattle.work_desk.proofs.Boards.{opens}
use Rattle.work_desk.proofs.board.Board.new.Goals as goal

pub invariant_of-result : goal.invariant_of-result
invariant_of-result g c =
    let e = c.length.ensures in
    let o = opens (g.C.Core.over c.args.core) (g.C.Core.history c.args.core) c.length.result c.new.result.items c.new-2.result.items e.budget e.legal e.few e.length c.new.ensures.items c.new-2.ensures.items in
    (o.0, omega (arith, c.new.ensures.len, c.new-2.ensures.len))

pub returns-clause-items : goal.returns-clause-items
returns-clause-items g c =
    let e = c.length.ensures in
    (opens (g.C.Core.over c.args.core) (g.C.Core.history c.args.core) c.length.result c.new.result.items c.new-2.result.items e.budget e.legal e.few e.length c.new.ensures.items c.new-2.ensures.items).1
