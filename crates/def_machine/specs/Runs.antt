-- The states that an attempt reaches over a repository, and lists of updates each of which is its attempt's run.
use Rattle.std.specs.Prelude.{◌≡◌, ℕ, suc, ◌++◌, true, false, List, [], ◌∷◌, None}
use Rattle.def_machine.specs.Machine.{Machine}
use Rattle.def_machine.specs.Updates.{Read, Update, trail}
use Rattle.def_machine.specs.Standings.{lack}
use Rattle.def_machine.specs.Steps.{next_state, step_log}

-- By steps from its beginning over D, with these answers, attempt a of update n reaches this state with this log.
pub data Reached (M : Machine) (D : M.Repository) (answers : List M.Choice) (n a : ℕ) (op : M.Operation) : M.State → List (Read M) → Type 0 where
  start : Reached M D answers n a op (M.begin n a op) []
  more : {P : M.State} {log : List (Read M)} → Reached M D answers n a op P log → M.outcome P ≡ None
      → lack M answers P ≡ None
      → Reached M D answers n a op (next_state M op D answers P) (log ++ step_log M op D answers P)

-- Update n is its present attempt's run over D. A withdrawn one has no log.
pub record IsRun (M : Machine) (D : M.Repository) (n : ℕ) (u : Update M) : Type 0 where
  pub present : u.withdrawn ≡ false → Reached M D u.answers n u.attempt u.operation u.state u.log
  pub gone : u.withdrawn ≡ true → u.log ≡ []

-- Each update is its run over the repository below it. The first is update n, and D is the repository below it.
abbrev pub AreRuns : (M : Machine) → M.Repository → ℕ → List (Update M) → Type 0
AreRuns M D n [] = Unit {0}
AreRuns M D n (u ∷ us) = IsRun M D n u × AreRuns M (M.apply D (trail M u)) (suc n) us
