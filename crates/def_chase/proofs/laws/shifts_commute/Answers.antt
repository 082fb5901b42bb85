use Rattle.def_chase.proofs.Shifted.{outer_fact_shifts}
use Rattle.def_chase.proofs.ShiftedQueries.{value_shifts}
use Rattle.def_chase.proofs.laws.shifts_commute.Goals as goal

pub returns : goal.returns
returns c = record { values = value_shifts; outer_forms = outer_fact_shifts }
