use Rattle.def_steps.specs.Chase.{caused_chase}
use Rattle.def_record.proofs.Staying.{stay_law}
use Rattle.def_record.proofs.laws.tickets_stay_out.Goals as goal

pub returns : goal.returns
returns c = λ ms budget. stay_law (caused_chase ms budget)
