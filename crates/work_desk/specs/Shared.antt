-- What the seats of a desk share inside its lock, and the record that it stands for.
use Rattle.std.specs.Prelude.{◌≡◌, ℕ, ◌<◌, ◌≤◌, ◌^◌, List, ◌∷◌, map, length, Some, None}
use Rattle.def_record.specs.declared.made.Made.{Made}
use Rattle.def_record.specs.declared.item.Item.{Item}
use Rattle.def_record.specs.declared.item.Item.TheVariants.{Opened}
use Rattle.def_record.specs.declared.item.Mark.{Mark}
use Rattle.def_record.specs.declared.item.Mark.TheVariants.{Opening}
use Rattle.def_record.specs.Items.{ItemOf, Record, made, item_meant}
use Rattle.def_record.specs.Marks.{entries_for_all, count_for_all, entered, record_of, meant}
use Rattle.def_record.specs.Tickets.{Ticket}
use Rattle.def_record.specs.Records.{Now, IsOpen, now_of, IsRecord}
use Rattle.def_history.specs.Cores.{Ground, machine, session_over, entries_over, updates_after}
use Rattle.def_history.specs.PlainEntries.{PlainEntry, entry_kept}

-- The items of a desk, with entries as plain data, each with the seat that made it. The first item says what the core is over.
abbrev pub Items : Type 0
Items = List (Made (Item Ground PlainEntry))

-- An item as one of a desk over the machine.
abbrev pub item_over : (g : Ground) → Item Ground PlainEntry → ItemOf (machine g)
item_over g i = item_meant (λ o. (g.settings, session_over g)) (entry_kept g.rules g.budget) i

-- The items as a record over the machine.
abbrev pub record_over : (g : Ground) → Items → Record (machine g)
record_over g xs = meant (item_over g) xs

-- After these items the desk stands at n, and is open.
pub record StandsAt (g : Ground) (xs : Items) (n : Now (machine g)) : Type 0 where
  pub is : IsRecord (record_over g xs)
  pub left : now_of (record_over g xs) ≡ Some n
  pub open_now : IsOpen n

-- The value inside the lock: what the core is over, its history, how many entries that had at the opening, the marks since, the
-- updates in flight, and how many tickets were given.
pub record Shared : Type 0 where
  pub over : Ground
  pub history : List PlainEntry
  pub opened : ℕ
  pub marks : List (Made Mark)
  pub busy : List ℕ
  pub given : ℕ

-- All marks, with the one of the opening.
abbrev pub marks_of : Shared → List (Made Mark)
marks_of b = made (Opening b.opened) None ∷ b.marks

-- The items that the shared value stands for.
abbrev pub items_of : Shared → Items
items_of b = record_of b.over (marks_of b) b.history

-- The present state of a desk that shares b, with the tickets `out`.
abbrev pub now_at : (b : Shared) → List Ticket → Now (machine b.over)
now_at b out =
    record {
      settings = b.over.settings;
      session = session_over b.over;
      opening = b.opened;
      updates = updates_after b.over b.history;
      history = entries_over b.over b.history;
      out = out;
      given = b.given;
    }

-- The updates that the tickets are for.
abbrev pub updates_of : List Ticket → List ℕ
updates_of out = map (λ t. t.update) out

-- The value is the one that a desk shares: its items are a record of this state, in which the tickets that are out are for the
-- updates in flight.
pub record IsShared (b : Shared) : Type 0 where
  pub budget : 1 ≤ b.over.budget
  pub out : List Ticket
  pub stands : StandsAt b.over (items_of b) (now_at b out)
  pub busy : updates_of out ≡ b.busy
  pub counted : entries_for_all (marks_of b) ≡ length b.history
  pub few : b.given ≤ length b.marks
  -- each mark since the opening is one item
  pub single : count_for_all b.marks ≡ length b.marks
  pub short : b.opened < 2 ^ 63

-- The items of a desk that was just opened over a core with these entries.
abbrev pub opening_items : Ground → List PlainEntry → Items
opening_items g H = made (Opened g (length H)) None ∷ entered None H
