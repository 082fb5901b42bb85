use Rattle.core_laws.proofs.Turning.{drained_law}
use Rattle.core_laws.proofs.drains.drained_sessions_are_serial.Goals as goal

pub returns : goal.returns
returns c = drained_law
