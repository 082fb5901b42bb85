use Rattle.ws_laws.proofs.Logging.{replays_keep}
use Rattle.ws_laws.proofs.laws.replays_keep_what_stands.Goals as goal

pub returns : goal.returns
returns c = replays_keep
