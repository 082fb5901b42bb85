-- An update taken whole comes to rest.
use Rattle.std.specs.Prelude.{◌≡◌, ◌≤◌, true, List, Some, None, is_some}
use Rattle.def_machine.specs.Machine.{Machine}
use Rattle.def_machine.specs.Updates.{Read}
use Rattle.def_machine.specs.Standings.{lack}
use Rattle.def_machine.specs.Runs.{Reached}
use Rattle.def_machine.specs.Serial.{Rest, Ends, Stops, Turn, whole}

-- The turn reaches the state by steps over D, within the budget.
pub record IsRunOf (M : Machine) (D : M.Repository) (t : Turn M) (P : M.State) : Type 0 where
  pub log : List (Read M)
  pub reached : Reached M D t.answers t.number t.attempt t.operation P log
  pub few : M.count P ≤ M.budget

-- An update that ends has an outcome; one that stops has none, and lacks an answer in the way that is said.
abbrev pub IsRest : (M : Machine) → M.Repository → Turn M → Rest M → Type 0
IsRest M D t (Ends P) = IsRunOf M D t P × (is_some (M.outcome P) ≡ true)
IsRest M D t (Stops P l) = IsRunOf M D t P × (M.outcome P ≡ None) × (lack M t.answers P ≡ Some l)

-- This holds for every turn over every repository.
abbrev pub RestLaw : Machine → Type 0
RestLaw M = (D : M.Repository) (t : Turn M) → IsRest M D t (whole M D t)
