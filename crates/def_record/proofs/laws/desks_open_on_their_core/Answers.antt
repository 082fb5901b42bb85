use Rattle.def_steps.specs.Chase.{caused_chase}
use Rattle.def_record.proofs.Beginning.{opening_law}
use Rattle.def_record.proofs.laws.desks_open_on_their_core.Goals as goal

pub returns : goal.returns
returns c = λ ms budget. opening_law (caused_chase ms budget)
