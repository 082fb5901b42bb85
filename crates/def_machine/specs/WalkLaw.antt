-- A single walk upwards finds the conflict set and the cascade, and restarts exactly the updates that they name.
use Rattle.std.specs.Prelude.{◌≡◌, ℕ, suc, true, false, List, [], ◌∷◌, ◌++◌}
use Rattle.def_machine.specs.Machine.{Machine}
use Rattle.def_machine.specs.Updates.{Update, Deps, trail}
use Rattle.def_machine.specs.Cascade.{readers, restarted}
use Rattle.def_machine.specs.Effects.{causes_of_loss, causes_of_writes}
use Rattle.def_machine.specs.Settle.{settle, restart, conflicts_in, dependences_in}

-- The walk above update j, which wrote: D is the repository below the first of the updates, with the writes.
pub record IsWalkOfWrites (M : Machine) (deps : Deps) (c j : ℕ) (D : M.Repository) (us : List (Update M)) : Type 0 where
  pub causes : causes_of_writes M deps c j D us ≡ conflicts_in (settle M deps true c j D D [] (suc j) us) ++ dependences_in (settle M deps true c j D D [] (suc j) us)
  pub restarts : restarted M (readers (causes_of_writes M deps c j D us)) (suc j) us ≡ restart M (suc j) (settle M deps true c j D D [] (suc j) us) us

-- The walk above update j, which was u and lost its trail: D is the repository below update j.
pub record IsWalkOfLoss (M : Machine) (deps : Deps) (c j : ℕ) (D : M.Repository) (u : Update M) (us : List (Update M)) : Type 0 where
  pub causes : causes_of_loss M deps c j D u us ≡ dependences_in (settle M deps false c j (M.apply D (trail M u)) D (record { number = j; trail = trail M u } ∷ []) (suc j) us)
  pub restarts : restarted M (readers (causes_of_loss M deps c j D u us)) (suc j) us
      ≡ restart M (suc j) (settle M deps false c j (M.apply D (trail M u)) D (record { number = j; trail = trail M u } ∷ []) (suc j) us) us

-- This holds above every update of a list.
abbrev pub WalkLaw : Machine → Type 0
WalkLaw M =
    (deps : Deps) (c j : ℕ) (D : M.Repository) (u : Update M) (us : List (Update M))
    → IsWalkOfWrites M deps c j D us × IsWalkOfLoss M deps c j D u us
