-- What turns of a drain make of a core.
use Rattle.std.specs.Prelude.{◌≡◌, ℕ, suc, ◌≤◌, Bool, true, false, Some}
use Rattle.core_laws.specs.Turns.{turned, after_turns, work_after}
use Rattle.core_engine.specs.States.{State, is_quiet_at}

-- Turns lead from the old state to the new one.
pub record HasTurned (old new : State) : Type 0 where
  pub turns : ℕ
  pub over : new.over ≡ old.over
  pub history : after_turns old.over turns old.history ≡ Some new.history
  pub relations : new.relations ≡ old.relations

-- One turn was made, which lowers the work that is left.
pub record HasTurnedOnce (old new : State) : Type 0 where
  pub over : new.over ≡ old.over
  pub history : turned old.over old.history ≡ Some new.history
  pub relations : new.relations ≡ old.relations
  pub less : suc (work_after old.over new.history) ≤ work_after old.over old.history

-- The core is quiet, and nothing was done.
pub record HasRested (old new : State) : Type 0 where
  pub quiet : is_quiet_at old ≡ true
  pub same : new ≡ old

-- A turn was made, or there is none.
abbrev pub HasMadeTurn : Bool → State → State → Type 0
HasMadeTurn true old new = HasTurnedOnce old new
HasMadeTurn false old new = HasRested old new
