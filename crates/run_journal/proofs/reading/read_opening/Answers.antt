use Rattle.std.proofs.Common.{◌∙◌, sym}
use Rattle.run_journal.proofs.Absent.{no_header}
use Rattle.run_journal.proofs.reading.read_opening.Goals as goal

pub returns-then-not-begins_header-clause-none : goal.returns-then-not-begins_header-clause-none
returns-then-not-begins_header-clause-none c = λ s opening e. no_header c.args.payload.now (sym c.begins_header.ensures ∙ c.if-not-begins_header.true) s e
