use Rattle.lang_session.proofs.Suiting.{mappings_no_null, timely}
use Rattle.lang_session.proofs.laws.sessions_suit_the_chase.Goals as goal

pub returns : goal.returns
returns c = record { no_nulls = λ s v. mappings_no_null s.relations s.mappings v.mappings; timely = timely }
