use Rattle.def_language.proofs.Once.{text_first}
use Rattle.def_language.proofs.laws.bytes_are_text_first.Goals as goal

pub returns : goal.returns
returns c = text_first
