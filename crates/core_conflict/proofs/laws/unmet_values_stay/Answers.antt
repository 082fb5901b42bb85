use Rattle.core_conflict.proofs.Staying.{unmet_values_stay}
use Rattle.core_conflict.proofs.laws.unmet_values_stay.Goals as goal

pub returns : goal.returns
returns c = unmet_values_stay
