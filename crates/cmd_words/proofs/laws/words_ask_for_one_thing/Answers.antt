use Rattle.cmd_words.proofs.OneMeaning.{one_meaning}
use Rattle.cmd_words.proofs.laws.words_ask_for_one_thing.Goals as goal

pub returns : goal.returns
returns c = one_meaning
