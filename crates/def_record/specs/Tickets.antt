-- The tickets that are out.
use Rattle.std.specs.Prelude.{ℕ, ◌==◌, Bool, true, ◌&&◌, if◌then◌else◌, List, [], ◌∷◌, Option, Some, None, is_some}
use Rattle.def_machine.specs.Machine.{Machine}
use Rattle.def_machine.specs.Effects.{Entry, Admitted, Stepped, Delivered, Answered, Withdrew}

-- A ticket that is out: its number, its update, the seat that got it, the length of the history at that time, and whether a step
-- was made with it since.
pub record Ticket : Type 0 where
  pub number : ℕ
  pub update : ℕ
  pub maker : ℕ
  pub stamp : ℕ
  pub used : Bool

-- The ticket of the update, if one is out.
abbrev pub ticket_of : ℕ → List Ticket → Option Ticket
ticket_of u [] = None
ticket_of u (t ∷ ts) = if t.update == u then Some t else ticket_of u ts

-- The update is in flight.
abbrev pub in_flight : ℕ → List Ticket → Bool
in_flight u ts = is_some (ticket_of u ts)

-- The tickets without the one with this number that seat j got.
abbrev pub without : ℕ → ℕ → List Ticket → List Ticket
without number j [] = []
without number j (t ∷ ts) = if (t.number == number) && (t.maker == j) then without number j ts else t ∷ without number j ts

-- The ticket, after the step with it was made.
abbrev pub with_step : Ticket → Ticket
with_step t = record { number = t.number; update = t.update; maker = t.maker; stamp = t.stamp; used = true }

-- The tickets after seat j made a step of update u.
abbrev pub using : ℕ → ℕ → List Ticket → List Ticket
using u j [] = []
using u j (t ∷ ts) = (if (t.update == u) && (t.maker == j) then with_step t else t) ∷ using u j ts

-- The tickets after seat j made this entry.
abbrev pub tickets_after : {M : Machine} → ℕ → Entry M → List Ticket → List Ticket
tickets_after j (Admitted i) ts = ts
tickets_after j (Stepped d) ts = using d.update j ts
tickets_after j (Delivered i s) ts = ts
tickets_after j (Answered i c s) ts = ts
tickets_after j (Withdrew i cs n) ts = ts
