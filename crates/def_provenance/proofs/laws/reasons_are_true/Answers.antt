use Rattle.def_provenance.proofs.Telling.{reasons_true}
use Rattle.def_provenance.proofs.laws.reasons_are_true.Goals as goal

pub returns : goal.returns
returns c = reasons_true
