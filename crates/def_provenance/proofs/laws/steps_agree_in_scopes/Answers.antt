use Rattle.def_provenance.proofs.Scoped.{steps_agree}
use Rattle.def_provenance.proofs.laws.steps_agree_in_scopes.Goals as goal

pub returns : goal.returns
returns c = steps_agree
