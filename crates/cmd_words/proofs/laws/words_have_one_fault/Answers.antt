use Rattle.cmd_words.proofs.OneFault.{one_fault}
use Rattle.cmd_words.proofs.laws.words_have_one_fault.Goals as goal

pub returns : goal.returns
returns c = one_fault
