use Rattle.cmd_plain.proofs.RecoverOutputs.{one_status}
use Rattle.cmd_plain.proofs.laws.recovered_inputs_have_one_status.Goals as goal

pub returns : goal.returns
returns c = one_status c.damaged_bytes_are_no_journal.ensures
