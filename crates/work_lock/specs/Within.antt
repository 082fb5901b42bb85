-- What the lock's private functions say to each other, about a wait and about dealing and gathering seats.
use Rattle.std.specs.Prelude.{◌≡◌, ℕ, ◌+◌, List, [], ◌∷◌, Some}
use Rattle.std.specs.declared.option.Option as rattle
use mathlib.Core.Option.{some}
use lib.ListN.{get_elem?}
use Rattle.atomic_table.specs.Table.{Me}
use Rattle.atomic_table.specs.Seated.{TableId}
use Rattle.atomic_table.specs.declared.shared.Seat as table
use Rattle.def_record.specs.declared.made.Made.{Made}
use Rattle.work_lock.specs.declared.view.View.{View}
use Rattle.work_lock.specs.declared.view.Stage.TheVariants.{Waiting, Opened}
use Rattle.work_lock.specs.declared.seat.Seat.{Seat}
use Rattle.def_record.specs.Makers.{Follows}
use Rattle.work_lock.specs.Rule.{view, wrap}
use Rattle.work_lock.specs.Steps.{in_stage, having_seen}
use Rattle.work_lock.specs.Seats.{place_of, place_at, lock_of, number_of, seen_of, IsAtRest}

-- the view with these lists of joined seats
abbrev pub gathered : {E : Type 0} → View E → List (List (Made E)) → View E
gathered v lists = view v.number v.seen v.stage v.dealt lists

module _ {V E : Type 0} where
  -- no step changes which seat of the table it is
  abbrev pub IsSameInTable : table.Seat (rattle.Option V) (View E) → table.Seat (rattle.Option V) (View E) → Type 0
  IsSameInTable s t = (t.table_id ≡ s.table_id) × (t.id ≡ s.id)

  -- the seat waits for the turn that its word writes as this number, and holds no slot
  abbrev pub WaitsFor : ℕ → Me (rattle.Option V) (View E) → Type 0
  WaitsFor number m = (m.1 ≡ []) × ((t : ℕ) × (m.0.stage ≡ Waiting t) × (wrap t ≡ number))

  -- after the wait the seat holds the slot, and has seen the history of the value in it
  abbrev pub IsServed : (V → List (Made E)) → Me (rattle.Option V) (View E) → Me (rattle.Option V) (View E) → Type 0
  IsServed entries m m' = (t : ℕ) × (x : V) × (m' ≡ (having_seen (in_stage m.0 (Opened t)) (entries x), (0, Some x) ∷ [])) × Follows m.0.number m.0.seen (entries x)

  -- the first seat of a lock that has n seats so far
  abbrev pub IsDealer : TableId → ℕ → Seat V E → Type 0
  IsDealer lock n s = (place_of s ≡ place_at lock n 0) × IsAtRest s

  -- what the first of the seats has seen
  abbrev pub seen_first : List (Seat V E) → List (Made E)
  seen_first [] = []
  seen_first (s ∷ ss) = seen_of s

  -- the seats after the first, in order of their numbers
  abbrev pub AreOthers : TableId → List (Seat V E) → Type 0
  AreOthers lock seats = (k : ℕ) (s : Seat V E) → get_elem? seats k ≡ some s → (lock_of s ≡ lock) × (number_of s ≡ k + 1) × IsAtRest s
