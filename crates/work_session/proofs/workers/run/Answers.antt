use denote.Param.Send.{sendable}
use Rattle.std.proofs.Common.{arith}
use Rattle.work_desk.proofs.Dealing.{dealt_own, back_own, back_all}
use Rattle.work_session.proofs.Ran.{ended, told}
use Rattle.work_session.proofs.WorkersSent.{desk_sync}
use Rattle.work_session.proofs.workers.run.Goals as goal

pub work_all-seats-requires-sync-B : goal.work_all-seats-requires-sync-B
work_all-seats-requires-sync-B g c κs within = search (sendable, desk_sync, c.type_bounds.send-C)

pub work_all-seats-requires-clause-own : goal.work_all-seats-requires-clause-own
work_all-seats-requires-clause-own g c κs within =
    dealt_own g.C.Core.over g.C.Core.history c.in-Ok.opened.0 c.args.core c.args.seats c.in-Ok.opened.1.items c.in-Ok.ensures.core c.in-Ok.ensures.seats c.in-Ok.ensures.saw

pub close-core-requires-clause-some : goal.close-core-requires-clause-some
close-core-requires-clause-some g c =
    let w = c.work_all-seats.ensures in
    let long = (back_all g.C.Core.over g.C.Core.history c.in-Ok.opened.0 c.args.seats c.in-Ok.opened.1.items c.work_all-seats.result.0.items c.in-Ok.ensures.seats w.lock w.own).0 in
    omega (arith, long, c.requires.seats.0)

pub close-core-requires-clause-seats : goal.close-core-requires-clause-seats
close-core-requires-clause-seats g c =
    let w = c.work_all-seats.ensures in
    (back_all g.C.Core.over g.C.Core.history c.in-Ok.opened.0 c.args.seats c.in-Ok.opened.1.items c.work_all-seats.result.0.items c.in-Ok.ensures.seats w.lock w.own).1

pub close-core-requires-clause-own : goal.close-core-requires-clause-own
close-core-requires-clause-own g c = back_own g.C.Core.over g.C.Core.history c.in-Ok.opened.0 c.work_all-seats.result.0.items c.work_all-seats.ensures.own

pub returns-in-Ok-result-clause-ends : goal.returns-in-Ok-result-clause-ends
returns-in-Ok-result-clause-ends g c =
    ended g.C.Core.over g.C.Core.history c.in-Ok.opened.0 c.args.core (g.C.Core.history c.close-core.result) c.work_all-seats.result.0.items c.in-Ok.ensures.core c.close-core.ensures.rest
    (told c.work_all-seats.result.1 _ _ c.in-Ok-result.is c.work_all-seats.ensures.rests) c.in-Ok.ensures.legal
