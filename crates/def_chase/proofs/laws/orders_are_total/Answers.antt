use Rattle.def_chase.proofs.Order.{null_total, datum_total, fact_total, null_exact, datum_exact, fact_exact}
use Rattle.def_chase.proofs.laws.orders_are_total.Goals as goal

pub returns : goal.returns
returns c = record { nulls = null_total; values = datum_total; tuples = fact_total; same_nulls = null_exact; same_values = datum_exact; same_tuples = fact_exact }
