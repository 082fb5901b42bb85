use Rattle.lang_session.proofs.Meeting.{base_holds}
use Rattle.lang_session.proofs.laws.base_holds.Goals as goal

pub returns : goal.returns
returns c = base_holds
