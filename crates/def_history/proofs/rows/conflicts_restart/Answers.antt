use Rattle.std.proofs.Common.{refl}
use Rattle.def_history.proofs.rows.conflicts_restart.Goals as goal

pub returns : goal.returns
returns c =
    record {
      conflict = refl;
      drained = refl;
      coarse = refl;
      held = refl;
      no_step_while_held = refl;
      free_again = refl;
      held_drained = refl;
    }
