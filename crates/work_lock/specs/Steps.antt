-- What each atomic step tells the seat that makes it: m is what the seat knows and holds before the step, m' after it.
use Rattle.std.specs.Prelude.{◌≡◌, ℕ, ◌+◌, ◌==◌, List, [], ◌∷◌, ◌++◌, MatchBool, Some}
use Rattle.std.specs.declared.option.Option as rattle
use mathlib.Core.Option.{some}
use Rattle.atomic_table.specs.Table.{Me, Step, rest}
use Rattle.def_record.specs.declared.made.Made.{Made}
use Rattle.work_lock.specs.declared.view.View.{View}
use Rattle.work_lock.specs.declared.view.Stage.{Stage}
use Rattle.work_lock.specs.declared.view.Stage.TheVariants.{Resting, Waiting, Opened, Spent}
use Rattle.def_record.specs.Makers.{Follows}
use Rattle.work_lock.specs.Rule.{view, wrap}

module _ {E : Type 0} where
  -- the view in another stage
  abbrev pub in_stage : View E → Stage → View E
  in_stage v stage = view v.number v.seen stage v.dealt v.joined

  -- the view once this list has been seen
  abbrev pub having_seen : View E → List (Made E) → View E
  having_seen v seen = view v.number seen v.stage v.dealt v.joined

  -- splitting a seat: the first seat has dealt one more
  abbrev pub dealer : View E → View E
  dealer v = view v.number v.seen v.stage (v.dealt + 1) v.joined

  -- splitting a seat: the new one has the next number, and has seen the same history as the first
  abbrev pub dealt : View E → View E
  dealt v = view v.dealt v.seen Resting 0 []

  -- joining a seat: the first seat notes what the other, w, has seen
  abbrev pub both_of : View E → View E → View E
  both_of v w = view v.number v.seen v.stage v.dealt (v.joined ++ w.seen ∷ [])

  -- joining a seat: the other is spent
  abbrev pub spent_view : View E
  spent_view = view 0 [] Spent 0 []

  module _ {V : Type 0} where
    -- taking a turn number: the seat waits for the turn whose number was found
    abbrev pub takes : Step (rattle.Option V) → Me (rattle.Option V) (View E) → ℕ → Me (rattle.Option V) (View E) → Type 0
    takes st m found m' = (t : ℕ) × (wrap t ≡ found) × (m' ≡ (in_stage m.0 (Waiting t), m.1))

    -- passing the turn: the seat rests, and has given the slot back
    abbrev pub passes : Step (rattle.Option V) → Me (rattle.Option V) (View E) → ℕ → Me (rattle.Option V) (View E) → Type 0
    passes st m found m' = m' ≡ (in_stage m.0 Resting, rest m.1)

    module _ (entries : V → List (Made E)) where
      -- the turn t is served: the seat has the slot, and has seen the history of the value in it
      abbrev pub Serves : Me (rattle.Option V) (View E) → ℕ → Me (rattle.Option V) (View E) → Type 0
      Serves m t m' = (x : V) × (m' ≡ (having_seen (in_stage m.0 (Opened t)) (entries x), (0, Some x) ∷ m.1)) × Follows m.0.number m.0.seen (entries x)

      -- looking at serving: the seat's turn is served if its number was found; otherwise nothing changes
      abbrev pub looks : Step (rattle.Option V) → Me (rattle.Option V) (View E) → ℕ → Me (rattle.Option V) (View E) → Type 0
      looks st m found m' = (t : ℕ) → m.0.stage ≡ Waiting t → MatchBool (found == wrap t) (Serves m t m') (m' ≡ m)

      -- counting the history: the seat has seen the history of the value that the step announces
      abbrev pub counts : Step (rattle.Option V) → Me (rattle.Option V) (View E) → ℕ → Me (rattle.Option V) (View E) → Type 0
      counts st m found m' = (x : V) → st.said ≡ some (Some x) → m' ≡ (having_seen m.0 (entries x), m.1)
