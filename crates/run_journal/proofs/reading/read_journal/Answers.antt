use Rattle.std.proofs.Common.{refl, inl}
use Rattle.run_journal.proofs.Absent.{no_opening_there}
use Rattle.run_journal.proofs.Heads.{none_of}
use Rattle.run_journal.proofs.reading.read_journal.Goals as goal

pub returns-in_default-2 : goal.returns-in_default-2
returns-in_default-2 c = record {
  told = inl (refl, no_opening_there c.args.bytes.now c.in-Some.payload.now c.in-Some.records.now c.in-Some.ensures.some c.in-Some.ensures.short (none_of c.in_ok-session.field-0 c.in_default-2.is c.in_ok-session.ensures.none));
}
