use Rattle.core_laws.proofs.Turning.{turns_law}
use Rattle.core_laws.proofs.drains.turns_keep_the_history.Goals as goal

pub returns : goal.returns
returns c = turns_law
