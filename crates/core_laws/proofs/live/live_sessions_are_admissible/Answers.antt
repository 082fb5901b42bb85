use Rattle.core_laws.proofs.Growing.{live_is_admissible}
use Rattle.core_laws.proofs.live.live_sessions_are_admissible.Goals as goal

pub returns : goal.returns
returns c = live_is_admissible
