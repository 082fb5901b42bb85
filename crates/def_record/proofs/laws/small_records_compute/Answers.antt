use Rattle.std.proofs.Common.{refl}
use Rattle.def_record.proofs.laws.small_records_compute.Goals as goal

pub returns : goal.returns
returns c = record { marks = refl; first = refl; second = refl; third = refl; last = refl; then_moves = refl }
