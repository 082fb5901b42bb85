use Rattle.std.proofs.Common.{refl}
use Rattle.def_steps.proofs.rows.sessions_run.Goals as goal

pub returns : goal.returns
returns c =
    record {
      insert_then_delete = refl;
      null_taken = refl;
      mapping_added = refl;
      mapping_spent = refl;
    }
