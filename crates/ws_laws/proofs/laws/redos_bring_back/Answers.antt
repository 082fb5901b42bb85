use Rattle.ws_laws.proofs.Redoing.{redos_bring_back}
use Rattle.ws_laws.proofs.laws.redos_bring_back.Goals as goal

pub returns : goal.returns
returns c = redos_bring_back
