-- Tickets that are out, and what the calls answer.
use Rattle.std.specs.Prelude.{◌≡◌, ℕ, suc, ◌≤◌, false, List, [], take, length, Option, Some, None, Result, Ok, Err, IfOk}
use Rattle.def_machine.specs.Machine.{Machine}
use Rattle.def_record.specs.Items.{Record, entries_in}
use Rattle.def_record.specs.Tickets as record_tickets
use Rattle.def_record.specs.Records.{Now}
use Rattle.def_record.specs.Stays.{IsOut}
use Rattle.def_record.specs.Answers as answers
use Rattle.def_record.specs.Calls.{next_items, back_items, step_items}
use Rattle.def_history.specs.Cores.{Ground, machine}
use Rattle.def_history.specs.PlainEntries.{PlainEntry}
use Rattle.def_memory.specs.declared.Memory.{Memory}
use Rattle.work_desk.specs.declared.tickets.Ticket.{Ticket}
use Rattle.work_desk.specs.declared.tickets.Next.{Next}
use Rattle.work_desk.specs.declared.tickets.Next.TheVariants as next
use Rattle.work_desk.specs.declared.tickets.Finished.{Finished}
use Rattle.work_desk.specs.declared.tickets.Finished.TheVariants.{Stepped, Stale}
use Rattle.work_desk.specs.Shared.{Items, Shared, StandsAt, items_of}
use Rattle.work_desk.specs.Turns.{Adds}
use Rattle.work_desk.specs.Cores.{IsPlanOf}

-- The answer is `Stale`, with the first entry that makes the plan stale, if there is one; otherwise the step is the last entry.
abbrev pub IsFinish : Option ℕ → Items → Finished → Type 0
IsFinish question ys (Stepped e) = (question ≡ None) × (e ≡ length (entries_in ys))
IsFinish question ys (Stale e) = question ≡ Some e

-- The fact P, if the step was made.
abbrev pub IfStepped : Type 0 → Finished → Type 0
IfStepped P (Stepped e) = P
IfStepped P (Stale e) = Unit {0}

module _ {S : Type 0} where
  -- The ticket as in the record, given to the seat j and not yet used for a step.
  abbrev pub ticket_for : ℕ → Ticket S → record_tickets.Ticket
  ticket_for j t = record { number = t.number; update = t.update; maker = j; stamp = t.stamp; used = false }

  -- After the items xs the ticket is out for the seat j. Its snapshot stands for its update at the state that the entries up to
  -- its stamp leave.
  pub record IsOutFor (holds : S → Ground → List PlainEntry → ℕ → Type 0) (g : Ground) (xs : Items) (j : ℕ) (t : Ticket S) : Type 0 where
    pub now : Now (machine g)
    pub stands : StandsAt g xs now
    pub out : IsOut (ticket_for j t) now
    pub stamped : t.stamp ≤ length (entries_in xs)
    pub snapshot : holds t.snapshot g (take t.stamp (entries_in xs)) t.update

  -- The plan is the step that the ticket's snapshot determines.
  abbrev pub IsPlanFor : {P : Type 0} → (S → Ground → List PlainEntry → ℕ → Type 0) → (P → Ground → List PlainEntry → ℕ → Type 0) → Ticket S → P → Type 0
  IsPlanFor snapshot_holds plan_holds t p = IsPlanOf snapshot_holds plan_holds t.snapshot p

  -- ---- next

  -- The answer is `next_answer` at n. A ticket has the next number, and the length of the history as its stamp.
  abbrev pub IsAnswer : {M : Machine} → Now M → Next (Ticket S) → Type 0
  IsAnswer n (next.Ticket t) = (answers.next_answer n ≡ answers.Gives t.update) × (t.number ≡ suc n.given) × (t.stamp ≡ length n.history)
  IsAnswer n (next.Delivered u) = answers.next_answer n ≡ answers.Moves u
  IsAnswer n (next.Idle u) = answers.next_answer n ≡ answers.Waits u
  IsAnswer n next.Quiet = answers.next_answer n ≡ answers.Quiet

  -- The fact P of the ticket, if one is given.
  abbrev pub IfGiven : (Ticket S → Type 0) → Next (Ticket S) → Type 0
  IfGiven P (next.Ticket t) = P t
  IfGiven P (next.Delivered u) = Unit {0}
  IfGiven P (next.Idle u) = Unit {0}
  IfGiven P next.Quiet = Unit {0}

  -- What `next` of the seat j adds.
  abbrev pub next_added : {E : Type 0} {M : Machine} → ℕ → Now M → Result (Next (Ticket S)) E → Record M
  next_added j n (Ok a) = next_items n j
  next_added j n (Err e) = []

  -- `next` of the seat j turns the items xs into ys.
  pub record HasNext {E : Type 0} (j : ℕ) (g : Ground) (r : Result (Next (Ticket S)) E) (ys xs : Items) : Type 0 where
    pub now : Now (machine g)
    pub adds : Adds j g xs ys now (next_added j now r)
    pub answer : IfOk r (IsAnswer now)

  -- ---- finish and give_back

  -- What `finish` of the seat j adds.
  abbrev pub finish_added : {E : Type 0} {M : Machine} → ℕ → Ticket S → Now M → Result Finished E → Record M
  finish_added j t n (Ok (Stepped e)) = step_items n (ticket_for j t)
  finish_added j t n (Ok (Stale e)) = back_items (ticket_for j t)
  finish_added j t n (Err e) = []

  -- `finish` of the seat j with the ticket turns the items xs into ys. `question` gives the first entry by which the plan is
  -- stale; `planned` holds of the updates and states whose step the plan is.
  pub record HasFinished {E : Type 0} (question : List PlainEntry → Option ℕ) (planned : Ground → List PlainEntry → ℕ → Type 0) (j : ℕ) (g : Ground) (t : Ticket S) (r : Result Finished E) (ys xs : Items) : Type 0 where
    pub now : Now (machine g)
    pub adds : Adds j g xs ys now (finish_added j t now r)
    pub answer : IfOk r (IsFinish (question (entries_in xs)) ys)
    -- a step goes in only if the plan is the step of the ticket's update here
    pub valid : IfOk r (IfStepped (planned g (entries_in xs) t.update))

  -- What a step with the ticket adds.
  abbrev pub step_added : {E : Type 0} {M : Machine} → ℕ → Ticket S → Now M → Result ℕ E → Record M
  step_added j t n (Ok e) = step_items n (ticket_for j t)
  step_added j t n (Err e) = []

  -- A step by the seat j with the ticket; the result is the number of its entry.
  pub record HasStepped {E : Type 0} (j : ℕ) (g : Ground) (t : Ticket S) (r : Result ℕ E) (ys xs : Items) : Type 0 where
    pub now : Now (machine g)
    pub adds : Adds j g xs ys now (step_added j t now r)
    pub answer : IfOk r (λ e. e ≡ length (entries_in ys))

  -- `give_back` of the seat j with the ticket.
  pub record HasGivenBack (j : ℕ) (g : Ground) (t : Ticket S) (ys xs : Items) : Type 0 where
    pub now : Now (machine g)
    pub adds : Adds j g xs ys now (back_items (ticket_for j t))

  -- ---- these facts for what the seats share

  -- The ticket is out for the seat j.
  abbrev pub IsOutOn : (S → Ground → List PlainEntry → ℕ → Type 0) → Shared → ℕ → Ticket S → Type 0
  IsOutOn holds b j t = IsOutFor holds b.over (items_of b) j t

  -- `next` of the seat j.
  abbrev pub NextOn : {E : Type 0} → ℕ → Shared → Shared → Result (Next (Ticket S)) E → Type 0
  NextOn j b b' r = HasNext j b.over r (items_of b') (items_of b)

  -- `next` of any seat, if it adds nothing.
  abbrev pub WaitsOn : Shared → Next (Ticket S) → Type 0
  WaitsOn b a = (j : ℕ) → NextOn {E = Memory} j b b (Ok a)

  -- A step, and `finish`, of the seat j with the ticket.
  abbrev pub StepOn : {E : Type 0} → ℕ → Shared → Shared → Ticket S → Result ℕ E → Type 0
  StepOn j b b' t r = HasStepped j b.over t r (items_of b') (items_of b)

  abbrev pub FinishOn : {E : Type 0} → (Ground → List PlainEntry → ℕ → Option ℕ) → (Ground → List PlainEntry → ℕ → Type 0) → ℕ → Shared → Shared → Ticket S → Result Finished E → Type 0
  FinishOn question planned j b b' t r = HasFinished (λ H. question b.over H t.stamp) planned j b.over t r (items_of b') (items_of b)

  -- `give_back` of the seat j with the ticket.
  abbrev pub BackOn : ℕ → Shared → Shared → Ticket S → Type 0
  BackOn j b b' t = HasGivenBack j b.over t (items_of b') (items_of b)
