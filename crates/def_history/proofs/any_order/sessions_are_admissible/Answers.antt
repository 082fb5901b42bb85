use Rattle.def_history.proofs.Sessions.{sessions_are_admissible}
use Rattle.def_history.proofs.any_order.sessions_are_admissible.Goals as goal

pub returns : goal.returns
returns c = sessions_are_admissible
