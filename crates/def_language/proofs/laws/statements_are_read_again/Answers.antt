use Rattle.def_language.proofs.Again.{statement_again}
use Rattle.def_language.proofs.laws.statements_are_read_again.Goals as goal

pub returns : goal.returns
returns c = statement_again
