use Rattle.audit_claims.proofs.ChoiceTexts.{read_again}
use Rattle.audit_claims.proofs.laws.choices_are_read_again.Goals as goal

pub returns : goal.returns
returns c s choice v good =
    read_again s v c.words_are_read_again.ensures c.statements_are_read_again.ensures c.statements_are_written_directly.ensures.statement c.statements_are_written_directly.ensures.tuple
    c.tuples_are_read_again.ensures choice good
