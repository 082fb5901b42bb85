use Rattle.def_steps.specs.Chase.{caused_chase}
use Rattle.def_record.proofs.Answering.{quiet_answer}
use Rattle.def_record.proofs.laws.quiet_is_rest.Goals as goal

pub returns : goal.returns
returns c = λ ms budget. quiet_answer (caused_chase ms budget)
