use Rattle.std.proofs.Common.{refl}
use Rattle.def_history.proofs.rows.added_mappings_conflict.Goals as goal

pub returns : goal.returns
returns c =
    record {
      added = refl;
      drained = refl;
    }
