use Rattle.core_laws.proofs.Turning.{turn_law}
use Rattle.core_laws.proofs.drains.turns_lower_the_work.Goals as goal

pub returns : goal.returns
returns c = turn_law
