use Rattle.def_language.proofs.SpokenInputs.{inputs_law}
use Rattle.def_language.proofs.inputs.inputs_are_statements.Goals as goal

pub returns : goal.returns
returns c = inputs_law c.statements_are_read_again.ensures c.nothing_else_is_read.ensures
