-- The limits of a session's mappings.
use Rattle.std.specs.Prelude.{◌≡◌, ℕ, ◌≤◌, List, Some, length}
use Rattle.std.specs.List.{slice_get}
use Rattle.def_chase.specs.Mappings.{Rule}

-- At most 65,536 mappings, each with at most 64 existential variables.
pub record AreWithin (ms : List Rule) : Type 0 where
  pub count : length ms ≤ 65536
  pub each : (n : ℕ) (m : Rule) → slice_get ms n ≡ Some m → m.existential ≤ 64
