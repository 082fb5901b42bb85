use Rattle.cmd_laws.proofs.Judged.{run_judged}
use Rattle.cmd_laws.specs.Circle.{said_of, trace_for, trial_for}
use Rattle.cmd_laws.proofs.laws.traces_of_runs_are_judged.Goals as goal

pub returns-clause-yes : goal.returns-clause-yes
returns-clause-yes c = run_judged c.histories_have_their_verdict.ensures

pub returns-clause-alone : goal.returns-clause-alone
returns-clause-alone c = λ r v k given. c.verdicts_are_one.ensures (trial_for r) (trace_for r) v (said_of r) given (run_judged c.histories_have_their_verdict.ensures r k)
