use Rattle.def_chase.proofs.Violations.{first_violation_is, none_violates}
use Rattle.def_chase.proofs.laws.first_violation_is_least.Goals as goal

pub returns : goal.returns
returns c = record { found = first_violation_is; none = none_violates }
