use Rattle.run_laws.proofs.Recovering.{recovered_is}
use Rattle.run_laws.proofs.Runs.{session_stands}
use Rattle.run_laws.proofs.journals.journals_recover_the_serial_run.Goals as goal

pub returns-clause-stand : goal.returns-clause-stand
returns-clause-stand c = λ k steps s r. session_stands s r.session steps r.some r.most k

pub returns-clause-recovered : goal.returns-clause-recovered
returns-clause-recovered c = λ k steps s r bytes x journal recovered.
    recovered_is c.journals_have_one_reading.ensures.session c.journals_have_one_reading.ensures.commits bytes x journal recovered
    (session_stands s r.session steps r.some r.most k)
