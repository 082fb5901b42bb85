use Rattle.def_language.proofs.Once.{some_answer, one_session, one_fault, apart, printed_again}
use Rattle.def_language.proofs.laws.every_input_has_one_answer.Goals as goal

pub returns-clause-some : goal.returns-clause-some
returns-clause-some c = some_answer

pub returns-clause-one_session : goal.returns-clause-one_session
returns-clause-one_session c = one_session

pub returns-clause-one_fault : goal.returns-clause-one_fault
returns-clause-one_fault c = one_fault

pub returns-clause-apart : goal.returns-clause-apart
returns-clause-apart c = apart

pub returns-clause-printed_again : goal.returns-clause-printed_again
returns-clause-printed_again c = printed_again
