use Rattle.audit_replay.proofs.Preparing.{written_copies}
use Rattle.audit_replay.proofs.stepping.told_of_step.Goals as goal

pub returns-clause-writes : goal.returns-clause-writes
returns-clause-writes c = written_copies c.args.audited.now c.args.plan.now c.written.result.now c.in_ok-writes.writes.items c.in_ok-writes.ensures.same c.written.ensures.written
