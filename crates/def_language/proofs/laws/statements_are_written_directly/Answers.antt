use Rattle.def_language.proofs.Direct.{statement_laid}
use Rattle.def_language.proofs.Round.{printed_directly}
use Rattle.std.proofs.Common.{refl}
use Rattle.def_language.proofs.laws.statements_are_written_directly.Goals as goal

pub returns-clause-session : goal.returns-clause-session
returns-clause-session c = printed_directly

pub returns-clause-tuple : goal.returns-clause-tuple
returns-clause-tuple c relations t outer = rw outer refl

pub returns-clause-statement : goal.returns-clause-statement
returns-clause-statement c = statement_laid
