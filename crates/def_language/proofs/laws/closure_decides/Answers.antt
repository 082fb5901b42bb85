use Rattle.def_language.proofs.Closure.{paths_decided, cycle_decided}
use Rattle.def_language.proofs.laws.closure_decides.Goals as goal

pub returns-clause-paths : goal.returns-clause-paths
returns-clause-paths c = paths_decided

pub returns-clause-cycles : goal.returns-clause-cycles
returns-clause-cycles c = cycle_decided
