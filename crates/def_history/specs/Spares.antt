-- Entries that spare an update's attempt: no step and no withdrawal of it.
use Rattle.std.specs.Prelude.{◌≢◌, ℕ, List, [], ◌∷◌}
use Rattle.def_machine.specs.Machine.{Machine}
use Rattle.def_machine.specs.Effects.{Entry, Admitted, Stepped, Delivered, Answered, Withdrew}

-- The entry is neither a step nor a withdrawal of the update.
abbrev pub Spares : {M : Machine} → ℕ → Entry M → Type 0
Spares u (Admitted i) = Unit {0}
Spares u (Stepped d) = d.update ≢ u
Spares u (Delivered i s) = Unit {0}
Spares u (Answered i c s) = Unit {0}
Spares u (Withdrew i cs n) = i ≢ u

-- None of the entries is a step or a withdrawal of the update.
abbrev pub AllSpare : {M : Machine} → ℕ → List (Entry M) → Type 0
AllSpare u [] = Unit {0}
AllSpare u (e ∷ es) = Spares u e × AllSpare u es
