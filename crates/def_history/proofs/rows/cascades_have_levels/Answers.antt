use Rattle.std.proofs.Common.{refl}
use Rattle.def_history.proofs.rows.cascades_have_levels.Goals as goal

pub returns : goal.returns
returns c =
    record {
      precise = refl;
      coarse = refl;
    }
