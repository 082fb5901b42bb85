use Rattle.def_machine.proofs.Walks.{walk_law}
use Rattle.def_steps.specs.Chase.{caused_chase}
use Rattle.def_history.proofs.laws.one_walk_settles.Goals as goal

pub returns : goal.returns
returns c = λ ms budget. walk_law (caused_chase ms budget)
