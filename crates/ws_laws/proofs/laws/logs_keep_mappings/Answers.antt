use Rattle.ws_laws.proofs.Holding.{logs_keep}
use Rattle.ws_laws.proofs.laws.logs_keep_mappings.Goals as goal

pub returns : goal.returns
returns c = logs_keep
