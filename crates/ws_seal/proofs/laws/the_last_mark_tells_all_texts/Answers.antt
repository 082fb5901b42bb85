use Rattle.ws_seal.proofs.Changed.{last_tells}
use Rattle.ws_seal.proofs.laws.the_last_mark_tells_all_texts.Goals as goal

pub returns : goal.returns
returns c = last_tells
