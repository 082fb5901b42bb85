use Rattle.def_steps.specs.Chase.{caused, caused_chase}
use Rattle.def_steps.proofs.ChaseLaws.{chase_laws}
use Rattle.def_record.proofs.Legality.{record_law}
use Rattle.def_record.proofs.laws.records_are_legal.Goals as goal

pub returns : goal.returns
returns c = λ ms budget some. record_law (caused_chase ms budget) (chase_laws caused ms budget some)
