use Rattle.def_machine.specs.Small.{small}
use Rattle.def_machine.proofs.Allowed.{allowed_law}
use Rattle.def_machine.proofs.standings_allow_events.Goals as goal

pub returns : goal.returns
returns c = λ budget. allowed_law (small budget)
