use Rattle.run_ask.proofs.Computed.{naive_is_certain}
use Rattle.run_ask.proofs.certainty.naive_is_certain.Goals as goal

pub returns : goal.returns
returns c = naive_is_certain
