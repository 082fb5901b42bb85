use Rattle.lang_session.proofs.Decided.{decided}
use Rattle.lang_session.proofs.admission.admissions_are_decided.Goals as goal

pub returns : goal.returns
returns c = decided
