-- An undo of an update that was just said has the result of a replay without it.
use Rattle.std.specs.Prelude.{◌≡◌, ℕ, ◌==◌, Bool, false, [], ◌∷◌}
use Rattle.std.specs.List.{list_any}
use Rattle.def_chase.specs.Violations.{Scope}
use Rattle.def_chase.specs.Updates.{Operation}
use Rattle.def_workspace.specs.Lines.{Update, Line, Says, Answers, Goes, Undoes, Redoes, Forgets, Declares}
use Rattle.def_workspace.specs.Worlds.{Waiting}
use Rattle.def_workspace.specs.States.{State, taken, replayed}

-- The line is about update n: it says the update, answers it, or makes it try again.
abbrev pub is_of : ℕ → Line → Bool
is_of n (Says u) = n == u.number
is_of n (Answers m g) = n == m
is_of n (Goes m) = n == m
is_of n (Undoes ms) = false
is_of n (Redoes ms) = false
is_of n (Forgets ms) = false
is_of n (Declares d) = false

-- No line is about update n, and it did not wait at the last fold.
pub record IsNew (S : State) (n : ℕ) : Type 0 where
  pub lines : list_any (is_of n) S.lines ≡ false
  pub waiting : list_any (λ (v : Waiting). n == v.update.number) S.base.waiting ≡ false

-- If an update is said under a new number and then undone, the world is the one that a replay of the log before it gives. So it
-- is the world before the update, if the replay of its log gives that world.
pub record UndoneAtOnce (scope : Operation → Scope) (S : State) (u : Update) : Type 0 where
  pub replay : (taken scope (taken scope S (Says u)) (Undoes (u.number ∷ []))).live.world ≡ (replayed scope S).world
  pub before : (replayed scope S).world ≡ S.live.world → (taken scope (taken scope S (Says u)) (Undoes (u.number ∷ []))).live.world ≡ S.live.world

abbrev pub UndoTakesBack : Type 0
UndoTakesBack = (scope : Operation → Scope) (S : State) (u : Update) → IsNew S u.number → UndoneAtOnce scope S u
