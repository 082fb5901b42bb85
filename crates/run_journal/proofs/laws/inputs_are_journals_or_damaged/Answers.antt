use Rattle.run_journal.proofs.Either.{journal_or_damage}
use Rattle.run_journal.proofs.laws.inputs_are_journals_or_damaged.Goals as goal

pub returns : goal.returns
returns c =
    journal_or_damage c.every_input_has_one_answer.ensures.some c.every_input_has_one_answer.ensures.one_session c.every_input_has_one_answer.ensures.apart c.sessions_are_read_again.ensures
    c.spelled_sessions_are_valid.ensures c.tuples_are_read_again.ensures c.lines_say_tuples.ensures
