use Rattle.def_chase.proofs.Violations.{violates_decides}
use Rattle.def_chase.proofs.laws.violation_is_decided.Goals as goal

pub returns : goal.returns
returns c = violates_decides
