use Rattle.ws_seal.proofs.OneLog.{one_log}
use Rattle.ws_seal.proofs.laws.logs_have_one_reading.Goals as goal

pub returns : goal.returns
returns c = one_log c.rolls_have_one_reading.ensures
