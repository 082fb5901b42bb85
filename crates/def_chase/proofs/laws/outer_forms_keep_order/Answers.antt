use Rattle.def_chase.proofs.OuterForms.{outer_forms}
use Rattle.def_chase.proofs.laws.outer_forms_keep_order.Goals as goal

pub returns : goal.returns
returns c = outer_forms
