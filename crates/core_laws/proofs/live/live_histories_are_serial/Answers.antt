use Rattle.core_laws.proofs.Growing.{live_is_serial}
use Rattle.core_laws.proofs.live.live_histories_are_serial.Goals as goal

pub returns : goal.returns
returns c = live_is_serial
