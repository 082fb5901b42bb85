use Rattle.def_steps.specs.Chase.{caused_chase}
use Rattle.def_history.proofs.Touching.{touch_law}
use Rattle.def_history.proofs.stale.touches_tell.Goals as goal

pub returns : goal.returns
returns c = λ ms budget. touch_law (caused_chase ms budget)
