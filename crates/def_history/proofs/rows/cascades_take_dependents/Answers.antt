use Rattle.std.proofs.Common.{refl}
use Rattle.def_history.proofs.rows.cascades_take_dependents.Goals as goal

pub returns : goal.returns
returns c =
    record {
      precise = refl;
      coarse = refl;
      precise_drained = refl;
      coarse_drained = refl;
    }
