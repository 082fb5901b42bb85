-- The cascade of all updates from the first one on, given the numbers of its first members.
use Rattle.std.specs.Prelude.{◌≡◌, ℕ, suc, List, [], ◌∷◌, ◌++◌, drop, Some, slice_get}
use Rattle.def_machine.specs.Machine.{Machine}
use Rattle.def_machine.specs.Updates.{Update, Deps, below}
use Rattle.def_machine.specs.Cascade.{Cause, readers, conflicts, cascade}
use Rattle.def_machine.specs.Effects.{causes_of_loss, causes_of_writes}

-- The cascade over the base from update 1 on, with c updates committed.
abbrev pub cascade_from_base : (M : Machine) → Deps → ℕ → M.Repository → List ℕ → List (Update M) → List (Cause M)
cascade_from_base M deps c D firsts us = cascade M deps c firsts D [] 1 us

-- The cascade from the base is the cascade of an event at update k + 1, which is u: of the loss of its trail, or of its writes.
pub record IsCascadeAt (M : Machine) (deps : Deps) (c : ℕ) (D : M.Repository) (us : List (Update M)) (k : ℕ) (u : Update M) : Type 0 where
  pub loss : causes_of_loss M deps c (suc k) (below M D us k) u (drop (suc k) us) ≡ cascade_from_base M deps c D (suc k ∷ []) us
  pub writes : causes_of_writes M deps c (suc k) (below M D us (suc k)) (drop (suc k) us)
      ≡ conflicts M c (suc k) (below M D us (suc k)) (suc (suc k)) (drop (suc k) us) ++ cascade_from_base M deps c D (readers (conflicts M c (suc k) (below M D us (suc k)) (suc (suc k)) (drop (suc k) us))) us

-- This holds at every update of a list.
abbrev pub CallLaw : Machine → Type 0
CallLaw M =
    (deps : Deps) (c : ℕ) (D : M.Repository) (us : List (Update M)) (k : ℕ) (u : Update M) → slice_get us k ≡ Some u
    → IsCascadeAt M deps c D us k u
