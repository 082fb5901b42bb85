use Rattle.std.proofs.Common.{arith}
use Rattle.audit_updates.proofs.Answering.{set_last}
use Rattle.audit_updates.proofs.events.put_at.Goals as goal

pub returns-then-many-len-clause-put : goal.returns-then-many-len-clause-put
returns-then-many-len-clause-put c =
    let h = c.if-many-len.true in
    let e = c.len.ensures.length in
    set_last c.args.answers.now.items _ _ c.args.many c.args.choice (omega (arith, h, e)) c.keep.ensures.first c.put.ensures.items
