use Rattle.std.proofs.Common.{refl}
use Rattle.def_steps.proofs.rows.budgets_end.Goals as goal

pub returns : goal.returns
returns c =
    record {
      four_steps = refl;
      default_budget = refl;
      unified = refl;
    }
