-- The writes of updates: a trail is the writes of one update, and a function gives the trail of each number.
use Rattle.std.specs.Prelude.{◌≡◌, ℕ, zero, suc, List, [], ◌++◌, Option, Some, None}
use Rattle.std.specs.List.{slice_get}
use Rattle.def_chase.specs.Repository.{Change}

-- No update has written.
abbrev pub no_trails : ℕ → List Change
no_trails n = []

-- All updates except n keep their trails.
abbrev pub SameBut : ℕ → (ℕ → List Change) → (ℕ → List Change) → Type 0
SameBut n before after = (v : ℕ) → (v ≡ n → ⊥) → after v ≡ before v

-- The writes of the updates below n, one after another.
abbrev pub writes_below : (ℕ → List Change) → ℕ → List Change
writes_below trail zero = []
writes_below trail (suc n) = writes_below trail n ++ trail n

-- The trail of an item, if there is one.
abbrev pub trail_at : {X : Type 0} → (X → List Change) → Option X → List Change
trail_at f None = []
trail_at f (Some x) = f x

-- Update k + 1 has the trail of item k, and update 0 has none.
abbrev pub numbered : {X : Type 0} → (X → List Change) → List X → ℕ → List Change
numbered f us zero = []
numbered f us (suc k) = trail_at f (slice_get us k)
