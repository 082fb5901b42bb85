use Rattle.run_laws.proofs.Runs.{session_few, session_writes}
use Rattle.run_laws.proofs.journals.trails_are_logged.Goals as goal

pub returns-clause-logged : goal.returns-clause-logged
returns-clause-logged c = λ steps s r. session_writes s r.session steps r.some r.most

pub returns-clause-few : goal.returns-clause-few
returns-clause-few c = session_few
