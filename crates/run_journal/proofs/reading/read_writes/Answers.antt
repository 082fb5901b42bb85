use Rattle.std.proofs.Common.{map}
use Rattle.base_types.specs.Meanings.{change_of}
use Rattle.lang_session.specs.Meanings.{session_of}
use Rattle.run_journal.proofs.Heads.{none_of, some_left}
use Rattle.run_journal.proofs.WriteLines.{no_line_left, no_write_next}
use Rattle.run_journal.proofs.reading.read_writes.Goals as goal

pub returns-in_default-clause-none : goal.returns-in_default-clause-none
returns-in_default-clause-none c = λ ws good e.
    no_line_left c.args.session.now.schema (λ t fits. c.tuples_are_read_again.ensures (session_of c.args.session.now) t c.requires fits) (map change_of c.lines.writes.items) ws c.args.text.now c.lines.rest.now c.lines.invariant.writes c.lines.invariant.read
    c.in_default.ensures.none (some_left c.lines.rest.now c.is_empty.result c.is_empty.ensures c.lines-test.true) good e

pub returns-in_default-2-clause-none : goal.returns-in_default-2-clause-none
returns-in_default-2-clause-none c = λ ws good e.
    no_write_next c.args.session.now.schema (λ t fits. c.tuples_are_read_again.ensures (session_of c.args.session.now) t c.requires fits) (map change_of c.lines.writes.items) ws c.args.text.now c.lines.rest.now c.in-Some.line.now c.in-Some.more.now c.lines.invariant.writes c.lines.invariant.read
    c.in-Some.ensures.line c.in-Some.ensures.one_line (none_of c.in_ok-write.field-0 c.in_default-2.is c.in_ok-write.ensures.none) good e
