use Rattle.cmd_laws.proofs.Audits.{run_audited}
use Rattle.cmd_laws.specs.Circle.{output_of, said_of, with_run}
use Rattle.cmd_laws.proofs.laws.what_run_writes_is_audited.Goals as goal

pub returns-clause-yes : goal.returns-clause-yes
returns-clause-yes c = λ r input k given met. run_audited r.session k.valid r.budget r.settings r.history (said_of r) (c.traces_of_runs_are_judged.ensures.yes r k) input given.spells given.closed met

pub returns-clause-alone : goal.returns-clause-alone
returns-clause-alone c = λ r input output k given met told.
    c.audited_inputs_have_one_output.ensures r.budget r.settings (with_run input r) output (output_of r) told
    (run_audited r.session k.valid r.budget r.settings r.history (said_of r) (c.traces_of_runs_are_judged.ensures.yes r k) input given.spells given.closed met)
