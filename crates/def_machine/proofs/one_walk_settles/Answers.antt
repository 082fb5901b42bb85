use Rattle.def_machine.specs.Small.{small}
use Rattle.def_machine.proofs.Walks.{walk_law}
use Rattle.def_machine.proofs.one_walk_settles.Goals as goal

pub returns : goal.returns
returns c = λ budget. walk_law (small budget)
