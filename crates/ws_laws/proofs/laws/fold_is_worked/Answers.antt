use Rattle.std.proofs.Common.{refl, inl}
use Rattle.ws_laws.proofs.laws.fold_is_worked.Goals as goal

pub returns : goal.returns
returns c =
    record {
      told = (
        record { fit = record { sound = refl; counted = refl }; heard = tt },
        (
          record { fit = record { sound = refl; counted = refl }; heard = tt },
          (
            record { fit = record { sound = refl; counted = refl }; heard = tt },
            (
              record { fit = record { sound = refl; counted = refl }; heard = tt },
              (
                record { fit = record { sound = tt; counted = refl }; heard = inl refl },
                (
                  record { fit = record { sound = refl; counted = refl }; heard = tt },
                  (
                    record { fit = record { sound = tt; counted = refl }; heard = (tt, (tt, (tt, (tt, (tt, (tt, tt)))))) },
                    (
                      record { fit = record { sound = tt; counted = refl }; heard = (tt, (tt, (tt, (tt, (inl refl, (tt, (tt, (tt, tt)))))))) },
                      tt,
                    ),
                  ),
                ),
              ),
            ),
          ),
        ),
      );
      seen = refl;
      undone = refl;
      kept = refl;
    }
