use Rattle.core_engine.proofs.Living.{live_cores}
use Rattle.core_engine.proofs.lives.live_cores_are_serial.Goals as goal

pub returns : goal.returns
returns c = live_cores
