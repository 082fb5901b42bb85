use Rattle.def_chase.proofs.Sets.{has-apply, apply_in_order}
use Rattle.def_chase.proofs.laws.writes_apply.Goals as goal

pub returns : goal.returns
returns c = record { members = has-apply; in_order = apply_in_order }
