use Rattle.std.proofs.Common.{refl}
use Rattle.def_steps.proofs.rows.sampled_added_mappings_run.Goals as goal

pub returns : goal.returns
returns c =
    record {
      first = refl;
      second = refl;
      third = refl;
      fourth = refl;
      fifth = refl;
      sixth = refl;
    }
