use Rattle.def_language.proofs.Held.{spelled_valid}
use Rattle.def_language.proofs.laws.spelled_sessions_are_valid.Goals as goal

pub returns : goal.returns
returns c = spelled_valid
