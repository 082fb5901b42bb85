use Rattle.cmd_plain.proofs.OneOutput.{one_output}
use Rattle.cmd_plain.proofs.audit_laws.audited_inputs_have_one_output.Goals as goal

pub returns : goal.returns
returns c = one_output c.verdicts_are_one.ensures
