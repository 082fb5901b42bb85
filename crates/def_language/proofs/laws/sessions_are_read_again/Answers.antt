use Rattle.def_language.proofs.Round.{session_again}
use Rattle.def_language.proofs.laws.sessions_are_read_again.Goals as goal

pub returns : goal.returns
returns c = session_again
