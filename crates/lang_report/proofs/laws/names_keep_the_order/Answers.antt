use Rattle.lang_report.proofs.Naming.{names_in_order}
use Rattle.lang_report.proofs.laws.names_keep_the_order.Goals as goal

pub returns : goal.returns
returns c = names_in_order
