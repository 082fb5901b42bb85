use Rattle.def_steps.specs.Chase.{caused_chase}
use Rattle.def_record.proofs.Resting.{rest_law}
use Rattle.def_record.proofs.laws.seats_at_rest_end_at_rest.Goals as goal

pub returns : goal.returns
returns c = λ ms budget. rest_law (caused_chase ms budget)
