use Rattle.run_journal.proofs.OneReading.{one_session, one_list}
use Rattle.run_journal.proofs.laws.journals_have_one_reading.Goals as goal

pub returns-clause-session : goal.returns-clause-session
returns-clause-session c = one_session c.every_input_has_one_answer.ensures.one_session c.sessions_are_read_again.ensures

pub returns-clause-commits : goal.returns-clause-commits
returns-clause-commits c = λ s commits others bytes j k. one_list s (λ t fits. c.tuples_are_read_again.ensures s t j.1.opening.session fits) commits others bytes j k
