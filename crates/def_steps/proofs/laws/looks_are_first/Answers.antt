use Rattle.def_steps.proofs.Looks.{looks_are_first}
use Rattle.def_steps.proofs.laws.looks_are_first.Goals as goal

pub returns : goal.returns
returns c = looks_are_first
