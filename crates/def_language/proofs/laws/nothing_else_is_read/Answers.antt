use Rattle.def_language.proofs.Stated.{statement_only}
use Rattle.def_language.proofs.laws.nothing_else_is_read.Goals as goal

pub returns : goal.returns
returns c = statement_only
