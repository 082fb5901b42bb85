use Rattle.def_steps.proofs.ChaseLaws.{chase_laws}
use Rattle.def_steps.proofs.laws.chase_is_machine.Goals as goal

pub returns : goal.returns
returns c = chase_laws
