use Rattle.run_laws.proofs.Openings.{opening_is}
use Rattle.run_laws.proofs.journals.openings_are_sessions.Goals as goal

pub returns : goal.returns
returns c = opening_is
