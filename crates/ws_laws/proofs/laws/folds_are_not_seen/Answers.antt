use Rattle.ws_laws.proofs.Folding.{folds_are_not_seen}
use Rattle.ws_laws.proofs.laws.folds_are_not_seen.Goals as goal

pub returns : goal.returns
returns c = folds_are_not_seen
