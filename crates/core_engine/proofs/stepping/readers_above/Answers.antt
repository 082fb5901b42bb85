use Rattle.std.proofs.Common.{arith, suc, ◌≤◌, ◌+◌}
use Rattle.core_engine.proofs.Unread.{readers_are, readers_within}
use Rattle.core_engine.proofs.stepping.readers_above.Goals as goal

pub returns-clause-read : goal.returns-clause-read
returns-clause-read c =
    let l : c.args.most ≤ suc c.args.place + c.saturating_sub.result = (let e = c.saturating_sub.ensures in omega (arith, e)) in
    readers_are c.args.queue.now c.args.place c.args.most c.saturating_sub.result l c.requires.most

pub returns-clause-within : goal.returns-clause-within
returns-clause-within c = readers_within c.args.queue.now c.args.place c.args.most c.saturating_sub.result c.requires.few c.saturating_sub.ensures
