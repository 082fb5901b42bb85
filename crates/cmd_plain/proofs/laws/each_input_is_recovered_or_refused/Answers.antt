use Rattle.cmd_plain.proofs.RecoverOutputs.{some_output}
use Rattle.cmd_plain.proofs.laws.each_input_is_recovered_or_refused.Goals as goal

pub returns : goal.returns
returns c = λ input. some_output input (c.inputs_are_journals_or_damaged.ensures input)
