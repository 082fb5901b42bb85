use Rattle.std.proofs.Common.{refl}
use Rattle.def_steps.proofs.rows.replacements_run.Goals as goal

pub returns : goal.returns
returns c =
    record {
      replace_merges = refl;
      refused_null = refl;
    }
