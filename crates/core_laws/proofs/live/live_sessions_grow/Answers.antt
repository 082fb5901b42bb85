use Rattle.core_laws.proofs.Growing.{live_grows}
use Rattle.core_laws.proofs.live.live_sessions_grow.Goals as goal

pub returns : goal.returns
returns c = live_grows
