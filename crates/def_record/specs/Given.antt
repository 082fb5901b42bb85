-- The meaning of a ticket that is out, in the history.
use Rattle.std.specs.Prelude.{◌≡◌, ℕ, suc, ◌≤◌, true, false, List, take, drop, length, Some, slice_get}
use Rattle.def_machine.specs.Machine.{Machine}
use Rattle.def_machine.specs.Updates.{Update, committed}
use Rattle.def_machine.specs.Standings.{standing, is_ready}
use Rattle.def_machine.specs.Histories.{IsLegal}
use Rattle.def_record.specs.Items.{Record}
use Rattle.def_record.specs.Tickets.{Ticket}
use Rattle.def_record.specs.Records.{Now, now_of, IsRecord}
use Rattle.def_history.specs.Spares.{AllSpare}
use Rattle.def_record.specs.Stays.{IsOut}

-- The ticket's stamp is the length of the history when it was given. The entries up to there left its update ready, and no later
-- entry is a step or a withdrawal of it.
pub record StandsFor (M : Machine) (n : Now M) (t : Ticket) : Type 0 where
  pub stamped : t.stamp ≤ length n.history
  -- the updates that those entries left
  pub updates : List (Update M)
  pub legal : IsLegal M n.settings n.session (take t.stamp n.history) updates
  -- the ticket's own update, and its place
  pub place : ℕ
  pub number : t.update ≡ suc place
  pub update : Update M
  pub there : slice_get updates place ≡ Some update
  pub ready : is_ready (standing M n.settings (committed M updates) (suc place) update) ≡ true
  pub spared : AllSpare t.update (drop t.stamp n.history)

-- This holds for every ticket that is out, and with which no step was made, in every record.
abbrev pub GivenLaw : Machine → Type 0
GivenLaw M = (r : Record M) (n : Now M) (t : Ticket) → IsRecord r → now_of r ≡ Some n → IsOut t n → t.used ≡ false → StandsFor M n t
