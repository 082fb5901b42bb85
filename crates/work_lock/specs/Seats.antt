-- What contracts see of seats and turns.
use Rattle.std.specs.Prelude.{◌≡◌, ℕ, List, [], ◌∷◌, length, None, zero, suc}
use mathlib.Core.Option.{some}
use lib.ListN.{get_elem?}
use Rattle.atomic_table.specs.Seated.{TableId}
use Rattle.def_record.specs.declared.made.Made.{Made}
use Rattle.work_lock.specs.declared.view.Stage.TheVariants.{Resting, Opened}
use Rattle.work_lock.specs.declared.seat.Seat.{Seat}
use Rattle.work_lock.specs.declared.seat.Turn.{Turn}
use Rattle.def_record.specs.Makers.{FollowsAmong}

-- A seat's place, which no call changes: its lock and its number.
-- It also says how many seats the lock has and how many were joined at its end. Only the first seat keeps these two; at any other
-- they are 0.
pub record Place : Type 0 where
  pub lock : TableId
  pub number : ℕ
  pub dealt : ℕ
  pub joined : ℕ

-- the place of the seat k, of a lock's n seats
abbrev pub place_at : TableId → ℕ → ℕ → Place
place_at lock n zero = record { lock = lock; number = 0; dealt = n; joined = 0 }
place_at lock n (suc k) = record { lock = lock; number = suc k; dealt = 0; joined = 0 }

module _ {V E : Type 0} where
  abbrev pub place_of : Seat V E → Place
  place_of s = record { lock = s.at.table_id; number = s.number; dealt = s.at.me.0.dealt; joined = length s.at.me.0.joined }

  -- the lock that the seat is one of
  abbrev pub lock_of : Seat V E → TableId
  lock_of s = s.at.table_id

  -- the seat's number at its lock, from 0
  abbrev pub number_of : Seat V E → ℕ
  number_of s = s.number

  -- the history that the seat has seen
  abbrev pub seen_of : Seat V E → List (Made E)
  seen_of s = s.at.me.0.seen

  -- the seat holds no turn
  abbrev pub IsAtRest : Seat V E → Type 0
  IsAtRest s = (s.at.me.0.stage ≡ Resting) × (s.at.me.1 ≡ []) × (s.at.me.0.number ≡ s.number)

  -- the turn was given to this seat, which still has it
  abbrev pub IsTurnOf : Turn V E → Seat V E → Type 0
  IsTurnOf turn s = (turn.opened.value ≡ s.at) × (turn.length ≡ length (seen_of s)) × (s.at.me.1 ≡ (0, None) ∷ []) × (s.at.me.0.number ≡ s.number) × ((t : ℕ) × (s.at.me.0.stage ≡ Opened t))

  -- these are all n seats of the lock, in order of their numbers, and none holds a turn
  abbrev pub AreSeats : TableId → ℕ → List (Seat V E) → Type 0
  AreSeats lock n seats = (length seats ≡ n) × ((k : ℕ) (s : Seat V E) → get_elem? seats k ≡ some s → (place_of s ≡ place_at lock n k) × IsAtRest s)

  -- each of the seats has seen this history
  abbrev pub AllSaw : List (Made E) → List (Seat V E) → Type 0
  AllSaw xs seats = (k : ℕ) (s : Seat V E) → get_elem? seats k ≡ some s → seen_of s ≡ xs

  -- This history begins with what each of the n seats has seen, and goes on by entries of the others.
  abbrev pub AllWithin : ℕ → List (Made E) → List (Seat V E) → Type 0
  AllWithin n xs seats = (k : ℕ) (s : Seat V E) → get_elem? seats k ≡ some s → FollowsAmong n k (seen_of s) xs
