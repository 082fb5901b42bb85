use Rattle.ws_laws.proofs.Logging.{undos_take_back}
use Rattle.ws_laws.proofs.laws.undos_take_back.Goals as goal

pub returns : goal.returns
returns c = undos_take_back
