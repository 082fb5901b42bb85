-- The histories of the small machine compute.
use Rattle.std.proofs.Common.{refl}
use Rattle.def_machine.specs.SmallHistories.{SmallRows}

pub small_rows : SmallRows
small_rows =
    record {
      conflict = refl;
      held = refl;
      not_while_held = refl;
      retried = refl;
      precise = refl;
      coarse = refl;
      withdrawal = refl;
      spent = refl;
    }
