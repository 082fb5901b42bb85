use Rattle.std.proofs.Common.{refl}
use Rattle.def_history.proofs.rows.taken_nulls_go.Goals as goal

pub returns : goal.returns
returns c =
    record {
      taken = refl;
      drained = refl;
    }
