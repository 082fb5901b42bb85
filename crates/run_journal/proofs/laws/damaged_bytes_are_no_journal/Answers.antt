use Rattle.run_journal.proofs.OneReading.{no_journal}
use Rattle.run_journal.proofs.laws.damaged_bytes_are_no_journal.Goals as goal

pub returns : goal.returns
returns c = λ s commits bytes place damage journal.
    no_journal c.every_input_has_one_answer.ensures.one_session c.sessions_are_read_again.ensures s
    (λ t fits. c.tuples_are_read_again.ensures s t journal.1.opening.session fits) commits bytes place damage journal
