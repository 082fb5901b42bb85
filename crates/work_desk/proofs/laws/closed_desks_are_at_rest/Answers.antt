use Rattle.std.proofs.Common.{ℕ}
use Rattle.def_steps.specs.Chase.{caused_chase}
use Rattle.def_record.specs.Items.{ItemOf}
use Rattle.work_desk.proofs.Closed.{closing_law}
use Rattle.work_desk.proofs.laws.closed_desks_are_at_rest.Goals as goal

pub returns : goal.returns
returns c = λ ms budget. closing_law (caused_chase ms budget) ℕ (ItemOf (caused_chase ms budget))
