use Rattle.def_language.proofs.Alone.{tuple_again}
use Rattle.def_language.proofs.facts.tuples_are_read_again.Goals as goal

pub returns : goal.returns
returns c = tuple_again
