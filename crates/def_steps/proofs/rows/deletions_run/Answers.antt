use Rattle.std.proofs.Common.{refl}
use Rattle.def_steps.proofs.rows.deletions_run.Goals as goal

pub returns : goal.returns
returns c =
    record {
      both_deleted = refl;
      one_deleted = refl;
      other_deleted = refl;
      deleted_unasked = refl;
    }
