use Rattle.def_provenance.proofs.Grounded.{reasons_grounded}
use Rattle.def_provenance.proofs.laws.reasons_are_grounded.Goals as goal

pub returns : goal.returns
returns c = reasons_grounded
