use Rattle.ws_laws.proofs.Unfolding.{undos_see_no_fold}
use Rattle.ws_laws.proofs.laws.undos_see_no_fold.Goals as goal

pub returns : goal.returns
returns c = undos_see_no_fold
