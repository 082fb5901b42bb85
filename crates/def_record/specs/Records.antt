-- Records of a desk: the state after each, and the items that may follow.
use Rattle.std.specs.Prelude.{◌≡◌, ℕ, suc, ◌<◌, ◌≤◌, false, not, ◌&&◌, List, [], ◌∷◌, ◌++◌, length, Option, Some, None, option_map}
use Rattle.def_machine.specs.Machine.{Machine}
use Rattle.def_machine.specs.Updates.{Update, Session, Settings, committed}
use Rattle.def_machine.specs.Standings.{standing, is_ready, lowest_that}
use Rattle.def_machine.specs.Effects.{Entry, Admitted, Stepped, Delivered, Answered, Withdrew, Effect, effect}
use Rattle.def_machine.specs.Histories.{event_of, IsLegal}
use Rattle.def_record.specs.declared.item.Item.TheVariants.{Opened, Entered, Gave, Returned}
use Rattle.def_record.specs.Items.{ItemOf, Record}
use Rattle.def_record.specs.Tickets.{Ticket, ticket_of, in_flight, without, tickets_after}

-- The state after a record: the settings, session and opening that the first item gives, the core's updates and history, the
-- tickets out, and the number of tickets given.
pub record Now (M : Machine) : Type 0 where
  pub settings : Settings
  pub session : Session M
  pub opening : ℕ
  pub updates : List (Update M)
  pub history : List (Entry M)
  pub out : List Ticket
  pub given : ℕ

-- The desk is open: the history has all entries that the core had at the opening.
abbrev pub IsOpen : {M : Machine} → Now M → Type 0
IsOpen n = n.opening ≤ length n.history

-- The state before any entry.
abbrev pub begun : {M : Machine} → Settings → Session M → ℕ → Now M
begun s S k = record { settings = s; session = S; opening = k; updates = []; history = []; out = []; given = 0 }

abbrev pub updates_in : {M : Machine} → List (Update M) → Option (Effect M) → List (Update M)
updates_in us None = us
updates_in us (Some x) = x.updates

abbrev pub entered_on : {M : Machine} → Now M → Entry M → List Ticket → Now M
entered_on {M} n e out =
    record {
      settings = n.settings;
      session = n.session;
      opening = n.opening;
      updates = updates_in n.updates (effect M n.settings n.session n.updates (event_of e));
      history = n.history ++ e ∷ [];
      out = out;
      given = n.given;
    }

abbrev pub with_out : {M : Machine} → Now M → List Ticket → ℕ → Now M
with_out n out given =
    record {
      settings = n.settings;
      session = n.session;
      opening = n.opening;
      updates = n.updates;
      history = n.history;
      out = out;
      given = given;
    }

-- The ticket that seat j now gets for update u.
abbrev pub next_ticket : {M : Machine} → Now M → ℕ → ℕ → ℕ → Ticket
next_ticket n number u j = record { number = number; update = u; maker = j; stamp = length n.history; used = false }

-- The state after an item.
abbrev pub moved : {M : Machine} → Now M → ItemOf M → Option ℕ → Now M
moved n (Opened o k) maker = n
moved n (Entered e) None = entered_on n e n.out
moved n (Entered e) (Some j) = entered_on n e (tickets_after j e n.out)
moved n (Gave t u) None = n
moved n (Gave t u) (Some j) = with_out n (n.out ++ next_ticket n t u j ∷ []) (suc n.given)
moved n (Returned t) None = n
moved n (Returned t) (Some j) = with_out n (without t j n.out) n.given

-- The state after items, one after the other.
abbrev pub after_items : {M : Machine} → Now M → Record M → Now M
after_items n [] = n
after_items n (i ∷ is) = after_items (moved n i.entry i.maker) is

-- The state after the first item, if it is an opening.
abbrev pub opened_by : {M : Machine} → ItemOf M → Option (Now M)
opened_by (Opened o k) = Some (begun o.0 o.1 k)
opened_by (Entered e) = None
opened_by (Gave t u) = None
opened_by (Returned t) = None

-- The state after a record; None if the record does not begin with an opening.
abbrev pub now_of : {M : Machine} → Record M → Option (Now M)
now_of [] = None
now_of (i ∷ is) = option_map (λ n. after_items n is) (opened_by i.entry)

-- The lowest ready update that is not in flight.
abbrev pub lowest_free : {M : Machine} → Now M → Option ℕ
lowest_free {M} n = lowest_that (λ i u. is_ready (standing M n.settings (committed M n.updates) i u) && not (in_flight i n.out)) 1 n.updates

-- The entry is the entry of its event in this state.
pub record IsNextEntry (M : Machine) (n : Now M) (e : Entry M) : Type 0 where
  pub made : Effect M
  pub allowed : effect M n.settings n.session n.updates (event_of e) ≡ Some made
  pub told : made.entry ≡ e

-- Seat j may make an entry of this kind: a step with its ticket for the update, with which no step was made, or a delivery.
abbrev pub MayEnter : {M : Machine} → List Ticket → ℕ → Entry M → Type 0
MayEnter out j (Admitted i) = ⊥
MayEnter out j (Stepped d) = (t : Ticket) × (ticket_of d.update out ≡ Some t) × (t.maker ≡ j) × (t.used ≡ false)
MayEnter out j (Delivered i s) = Unit {0}
MayEnter out j (Answered i c s) = ⊥
MayEnter out j (Withdrew i cs n) = ⊥

-- The item may follow in this state. The entries that the core had have no maker; all later items have one.
abbrev pub MayFollow : {M : Machine} → Now M → ItemOf M → Option ℕ → Type 0
MayFollow n (Opened o k) maker = ⊥
MayFollow {M} n (Entered e) None = IsNextEntry M n e × (length n.history < n.opening)
MayFollow {M} n (Entered e) (Some j) = IsNextEntry M n e × IsOpen n × MayEnter n.out j e
MayFollow n (Gave t u) None = ⊥
MayFollow n (Gave t u) (Some j) = IsOpen n × (t ≡ suc n.given) × (lowest_free n ≡ Some u)
MayFollow n (Returned t) None = ⊥
MayFollow n (Returned t) (Some j) = IsOpen n × ((x : Ticket) × (ticket_of x.update n.out ≡ Some x) × (x.number ≡ t) × (x.maker ≡ j))

-- The items may follow in turn.
abbrev pub AllFollow : {M : Machine} → Now M → Record M → Type 0
AllFollow n [] = Unit {0}
AllFollow n (i ∷ is) = MayFollow n i.entry i.maker × AllFollow (moved n i.entry i.maker) is

-- A record of a desk: an opening, which has no maker, and items that may follow in turn.
abbrev pub IsRecord : {M : Machine} → Record M → Type 0
IsRecord [] = ⊥
IsRecord {M} (i ∷ is) = (n : Now M) × (opened_by i.entry ≡ Some n) × (i.maker ≡ None) × AllFollow n is

-- This holds for all records of desks.
abbrev pub RecordLaw : Machine → Type 0
RecordLaw M = (r : Record M) (n : Now M) → IsRecord r → now_of r ≡ Some n → IsLegal M n.settings n.session n.history n.updates
