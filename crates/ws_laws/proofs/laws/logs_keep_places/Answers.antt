use Rattle.ws_laws.proofs.Growing.{logs_keep_places}
use Rattle.ws_laws.proofs.laws.logs_keep_places.Goals as goal

pub returns : goal.returns
returns c = logs_keep_places
