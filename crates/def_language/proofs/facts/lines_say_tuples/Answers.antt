use Rattle.def_language.proofs.Alone.{line_says}
use Rattle.def_language.proofs.facts.lines_say_tuples.Goals as goal

pub returns : goal.returns
returns c = line_says
