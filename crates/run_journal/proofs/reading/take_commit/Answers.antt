use Rattle.run_journal.proofs.Absent.{no_commit_there}
use Rattle.run_journal.proofs.Heads.{none_of}
use Rattle.run_journal.proofs.reading.take_commit.Goals as goal

pub returns-in_default-2-clause-none : goal.returns-in_default-2-clause-none
returns-in_default-2-clause-none c =
    no_commit_there c.args.session.now.schema c.args.number c.args.bytes.now c.in-Some.payload.now c.in-Some.rest.now c.in-Some.ensures.some c.in-Some.ensures.short (none_of c.in_ok-writes.field-0 c.in_default-2.is c.in_ok-writes.ensures.none)
