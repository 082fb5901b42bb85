-- What a seat knows after a call of a desk.
use Rattle.std.specs.Prelude.{ℕ, List, Option, Result}
use Rattle.work_lock.specs.Seats.{number_of, seen_of}
use Rattle.def_history.specs.Cores.{Ground}
use Rattle.def_history.specs.PlainEntries.{PlainEntry}
use Rattle.work_desk.specs.declared.desk.Desk.{Desk}
use Rattle.work_desk.specs.declared.tickets.Ticket.{Ticket}
use Rattle.work_desk.specs.declared.tickets.Next.{Next}
use Rattle.work_desk.specs.declared.tickets.Finished.{Finished}
use Rattle.work_desk.specs.declared.tickets.Stretch.{Stretch}
use Rattle.work_desk.specs.Turns.{AfterOthers}
use Rattle.work_desk.specs.Stretches.{HasStretched}
use Rattle.work_desk.specs.Tickets.{IsOutFor, HasNext, HasFinished, HasGivenBack}
use Rattle.work_desk.specs.Seats.{DeskSeat, core_of}

module _ {C S P : Type 0} (over : C → Ground) where
  -- The ticket is out for the seat.
  abbrev pub IsOutAt : (S → Ground → List PlainEntry → ℕ → Type 0) → Desk C S P → DeskSeat → Ticket S → Type 0
  IsOutAt holds d s t = IsOutFor holds (over (core_of d)) (seen_of s) (number_of s) t

  -- What `next` adds and answers: the seat is s before the call, and s' after it.
  abbrev pub AnswersNext : {E : Type 0} → Desk C S P → DeskSeat → DeskSeat → Result (Next (Ticket S)) E → Type 0
  AnswersNext d s s' r = AfterOthers (number_of s) (seen_of s) (HasNext (number_of s) (over (core_of d)) r (seen_of s'))

  -- What `stretch` adds.
  abbrev pub Stretches : {E : Type 0} → Desk C S P → DeskSeat → DeskSeat → Result Stretch E → Type 0
  Stretches d s s' r = AfterOthers (number_of s) (seen_of s) (HasStretched (number_of s) (over (core_of d)) r (seen_of s'))

  -- What `finish` does: `question` gives the first entry after the stamp by which the plan is stale, and `planned` holds wherever
  -- the plan is the step.
  abbrev pub Finishes : {E : Type 0} → (Ground → List PlainEntry → ℕ → Option ℕ) → (Ground → List PlainEntry → ℕ → Type 0)
      → Desk C S P → DeskSeat → DeskSeat → Ticket S → Result Finished E → Type 0
  Finishes question planned d s s' t r =
      AfterOthers (number_of s) (seen_of s) (HasFinished (λ H. question (over (core_of d)) H t.stamp) planned (number_of s) (over (core_of d)) t r (seen_of s'))

  -- What `give_back` adds.
  abbrev pub TakesBack : Desk C S P → DeskSeat → DeskSeat → Ticket S → Type 0
  TakesBack d s s' t = AfterOthers (number_of s) (seen_of s) (HasGivenBack (number_of s) (over (core_of d)) t (seen_of s'))
