use Rattle.def_machine.proofs.Allowed.{allowed_law}
use Rattle.def_steps.specs.Chase.{caused_chase}
use Rattle.def_history.proofs.laws.standings_allow_events.Goals as goal

pub returns : goal.returns
returns c = λ ms budget. allowed_law (caused_chase ms budget)
