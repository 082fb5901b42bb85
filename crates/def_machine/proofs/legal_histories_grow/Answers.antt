use Rattle.def_machine.specs.Small.{small}
use Rattle.def_machine.proofs.Prefixes.{legal_law}
use Rattle.def_machine.proofs.SmallLaws.{small_laws}
use Rattle.def_machine.proofs.legal_histories_grow.Goals as goal

pub returns : goal.returns
returns c = λ budget some. legal_law (small budget) (small_laws budget some)
