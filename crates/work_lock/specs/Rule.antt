-- The lock's rule: what holds of its words, its slot and its seats' views between any two atomic steps.
use Rattle.std.specs.Prelude.{◌≡◌, ℕ, ◌+◌, ◌%◌, ◌^◌, ◌<◌, ◌≤◌, ◌⊎◌, List, [], ◌∷◌, ◌++◌, length, Some}
use Rattle.std.specs.declared.option.Option as rattle
use mathlib.Core.Option.{Option, none, some}
use lib.ListN.{get_elem?}
use Rattle.atomic_table.specs.Table.{State}
use Rattle.def_record.specs.declared.made.Made.{Made}
use Rattle.work_lock.specs.declared.view.View.{View}
use Rattle.work_lock.specs.declared.view.Stage.{Stage}
use Rattle.work_lock.specs.declared.view.Stage.TheVariants.{Resting, Waiting, Opened, Spent}
use Rattle.def_record.specs.Makers.{FollowsAmong}

-- a turn's number as its word of 64 bits has it
abbrev pub wrap : ℕ → ℕ
wrap n = n % 2 ^ 64

-- a seat in this stage has the turn t
abbrev pub HasTurn : ℕ → Stage → Type 0
HasTurn t (Waiting u) = t ≡ u
HasTurn t (Opened u) = t ≡ u
HasTurn t Resting = ⊥
HasTurn t Spent = ⊥

-- how many turns a seat has in this stage
abbrev pub turns_in : Stage → ℕ
turns_in (Waiting t) = 1
turns_in (Opened t) = 1
turns_in Resting = 0
turns_in Spent = 0

module _ {E : Type 0} where
  abbrev pub view : ℕ → List (Made E) → Stage → ℕ → List (List (Made E)) → View E
  view number seen stage dealt joined = record { number = number; seen = seen; stage = stage; dealt = dealt; joined = joined }

  -- the view of the first seat of a new lock
  abbrev pub first_view : List (Made E) → View E
  first_view xs = view 0 xs Resting 1 []

  -- how many turns the seats have in all
  abbrev pub total : List (View E) → ℕ
  total [] = 0
  total (v ∷ vs) = turns_in v.stage + total vs

  -- the seat k was joined to the first
  abbrev pub IsSpent : List (View E) → ℕ → Type 0
  IsSpent views k = (w : View E) × (get_elem? views k ≡ some w) × (w.stage ≡ Spent)

  module _ {V : Type 0} (entries : V → List (Made E)) where
    -- What the j-th of n seats knows is true if `given` turns were given, `passed` were passed, and `current` is the history.
    abbrev pub Fits : ℕ → ℕ → List (Made E) → List (Option (rattle.Option V)) → ℕ → ℕ → View E → Stage → Type 0
    Fits given passed current homes n j v Spent = Unit {0}
    Fits given passed current homes n j v Resting = (v.number ≡ j) × FollowsAmong n j v.seen current
    Fits given passed current homes n j v (Waiting t) = (v.number ≡ j) × FollowsAmong n j v.seen current × (passed ≤ t) × (t < given)
    Fits given passed current homes n j v (Opened t) = (v.number ≡ j) × (v.seen ≡ current) × (t ≡ passed) × (t < given) × (homes ≡ none ∷ [])

    -- The rule, over the three lists of a table's state. The README explains each line.
    pub record KeptOf (words : List ℕ) (homes : List (Option (rattle.Option V))) (views : List (View E)) : Type 0 where
      -- the history, and how many turns were given and passed, never wrapped
      pub current : List (Made E)
      pub given : ℕ
      pub passed : ℕ
      pub words_are : words ≡ wrap given ∷ wrap passed ∷ length current ∷ []
      pub few : length views ≤ 16
      pub counted : passed + total views ≡ given
      pub each : (j : ℕ) (v : View E) → get_elem? views j ≡ some v → Fits given passed current homes (length views) j v v.stage
      pub apart : (j : ℕ) (v : View E) → get_elem? views j ≡ some v → (k : ℕ) (w : View E) (t : ℕ) → get_elem? views k ≡ some w → HasTurn t v.stage → HasTurn t w.stage → j ≡ k
      pub dealer : (j : ℕ) (v : View E) → get_elem? views j ≡ some v → 0 < v.dealt → (j ≡ 0) × (v.dealt ≡ length views)
      pub gathered : (j : ℕ) (v : View E) → get_elem? views j ≡ some v → (k : ℕ) (xs : List (Made E)) → get_elem? v.joined k ≡ some xs → FollowsAmong (length views) (k + 1) xs current × IsSpent views (k + 1)
      pub slot : ((x : V) × (homes ≡ some (Some x) ∷ []) × (entries x ≡ current)) ⊎ ((homes ≡ none ∷ []) × ((j : ℕ) × (v : View E) × (get_elem? views j ≡ some v) × (v.stage ≡ Opened passed)))

    -- the rule of the lock's table
    abbrev pub Kept : State (rattle.Option V) (View E) → Type 0
    Kept s = KeptOf s.words s.homes s.views
