use Rattle.run_ask.proofs.Computed.{certain_is_computed}
use Rattle.run_ask.proofs.certainty.certain_is_computed.Goals as goal

pub returns : goal.returns
returns c = certain_is_computed
