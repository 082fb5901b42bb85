-- What a seat of a desk has in hand.
use Rattle.std.specs.Prelude.{ℕ, List, [], ◌∷◌}
use Rattle.def_history.specs.Cores.{Ground}
use Rattle.def_history.specs.PlainEntries.{PlainEntry}
use Rattle.work_desk.specs.declared.desk.Desk.{Desk}
use Rattle.work_desk.specs.Calls.{IsOutAt}
use Rattle.work_desk.specs.Seats.{DeskSeat, IsSeatOf}
use Rattle.work_desk.specs.Tickets.{IsPlanFor}
use Rattle.try_desk.specs.declared.hands.Work.{Work}
use Rattle.try_desk.specs.declared.hands.Work.TheVariants.{Free, Given, Planned}
use Rattle.try_desk.specs.declared.hands.Hand.{Hand}
use Rattle.try_desk.specs.declared.tables.Table.{Table}

module _ {C S P : Type 0} (over : C → Ground) (history : C → List PlainEntry) (is_snapshot : S → Ground → List PlainEntry → ℕ → Type 0) (is_plan : P → Ground → List PlainEntry → ℕ → Type 0) where
  -- The seat has this in hand: a ticket is out for the seat, and a plan is the ticket's.
  abbrev pub IsHeld : Desk C S P → DeskSeat → Work S P → Type 0
  IsHeld d s Free = Unit {0}
  IsHeld d s (Given t) = IsOutAt over is_snapshot d s t
  IsHeld d s (Planned t p) = IsOutAt over is_snapshot d s t × IsPlanFor is_snapshot is_plan t p

  -- A seat of the desk with what it has in hand.
  abbrev pub IsHand : Desk C S P → Hand C S P → Type 0
  IsHand d h = IsSeatOf over history d h.seat × IsHeld d h.seat h.work

  -- The three seats of the desk with what they have in hand.
  abbrev pub IsTable : Desk C S P → Table C S P → Type 0
  IsTable d t = IsHand d t.first × IsHand d t.second × IsHand d t.third

-- The seats of a table, in order of their numbers.
abbrev pub seats_on : {C S P : Type 0} → Table C S P → List DeskSeat
seats_on t = t.first.seat ∷ t.second.seat ∷ t.third.seat ∷ []
