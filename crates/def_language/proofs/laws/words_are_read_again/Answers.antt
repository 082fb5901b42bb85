use Rattle.def_language.proofs.Pages.{words_again}
use Rattle.def_language.proofs.laws.words_are_read_again.Goals as goal

pub returns : goal.returns
returns c = words_again
