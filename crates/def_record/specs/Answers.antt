-- The answers of a desk to a seat that asks for work.
use Rattle.std.specs.Prelude.{◌≡◌, ℕ, min, ◌↔◌, true, List, [], ◌∷◌, Option, Some, None}
use Rattle.def_machine.specs.Machine.{Machine}
use Rattle.def_machine.specs.Standings.{lowest_deliverable, is_quiet}
use Rattle.def_record.specs.Tickets.{Ticket}
use Rattle.def_record.specs.Records.{Now, lowest_free}

-- An answer: a ticket for this update; a delivery to this update; nothing now, while this update is in flight; or nothing any
-- more.
pub data Answer : Type 0 where
  Gives : ℕ → Answer
  Moves : ℕ → Answer
  Waits : ℕ → Answer
  Quiet : Answer

-- The least number of an update with a ticket out, or the given number if that is less.
abbrev pub lowest_out : Option ℕ → List Ticket → Option ℕ
lowest_out low [] = low
lowest_out None (t ∷ ts) = lowest_out (Some t.update) ts
lowest_out (Some n) (t ∷ ts) = lowest_out (Some (min n t.update)) ts

abbrev pub first_of_these : Option ℕ → Option ℕ → Option ℕ → Answer
first_of_these (Some u) d o = Gives u
first_of_these None (Some u) o = Moves u
first_of_these None None (Some u) = Waits u
first_of_these None None None = Quiet

-- The answer in this state.
abbrev pub next_answer : {M : Machine} → Now M → Answer
next_answer {M} n = first_of_these (lowest_free n) (lowest_deliverable M n.settings n.updates) (lowest_out None n.out)

-- The desk is at rest: it is quiet, and no ticket is out.
pub record IsAtRest (M : Machine) (n : Now M) : Type 0 where
  pub quiet : is_quiet M n.settings n.updates ≡ true
  pub none : n.out ≡ []

-- The answer is Quiet exactly if the desk is at rest.
abbrev pub QuietAnswer : Machine → Type 0
QuietAnswer M = (n : Now M) → (next_answer n ≡ Quiet) ↔ IsAtRest M n
