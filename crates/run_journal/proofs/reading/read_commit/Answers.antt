use Rattle.std.proofs.Common.{◌∙◌}
use Rattle.run_journal.proofs.Absent.{no_writes_after}
use Rattle.run_journal.proofs.Heads.{none_weaker}
use Rattle.run_journal.proofs.reading.read_commit.Goals as goal

pub returns-in-Some-clause-none : goal.returns-in-Some-clause-none
returns-in-Some-clause-none c =
    none_weaker c.read_writes.result
    (no_writes_after c.args.session.now.schema c.args.number c.args.payload.now c.deref.result.now c.in-Some.text.now c.in-Some.ensures.some (c.deref.ensures.value ∙ c.in_ok-head.ensures))
    c.read_writes.ensures.none
