-- A desk's record: a list of items, each with the seat that made it.
use Rattle.std.specs.Prelude.{ℕ, List, [], ◌∷◌, ◌++◌, Option}
use Rattle.def_machine.specs.Machine.{Machine}
use Rattle.def_machine.specs.Updates.{Session, Settings}
use Rattle.def_machine.specs.Effects.{Entry}
use Rattle.def_record.specs.declared.made.Made.{Made}
use Rattle.def_record.specs.declared.item.Item.{Item}
use Rattle.def_record.specs.declared.item.Item.TheVariants.{Opened, Entered, Gave, Returned}

-- The entry a, made by this maker.
abbrev pub made : {A : Type 0} → A → Option ℕ → Made A
made a maker = record { entry = a; maker = maker }

-- The entry of an item, if it has one.
abbrev pub entry_in : {O E : Type 0} → Item O E → List E
entry_in (Opened o n) = []
entry_in (Entered e) = e ∷ []
entry_in (Gave t u) = []
entry_in (Returned t) = []

-- The history in a record.
abbrev pub entries_in : {O E : Type 0} → List (Made (Item O E)) → List E
entries_in [] = []
entries_in (i ∷ is) = entry_in i.entry ++ entries_in is

-- The item, with the ground of the core and the entries translated.
abbrev pub item_meant : {O E P F : Type 0} → (O → P) → (E → F) → Item O E → Item P F
item_meant over entry (Opened o n) = Opened (over o) n
item_meant over entry (Entered e) = Entered (entry e)
item_meant over entry (Gave t u) = Gave t u
item_meant over entry (Returned t) = Returned t

-- ---- over a machine

-- An item of a desk over a core of the machine, whose ground is settings and a session.
abbrev pub ItemOf : Machine → Type 0
ItemOf M = Item (Settings × Session M) (Entry M)

-- A record of such a desk: its items, each with the seat that made it, or none.
abbrev pub Record : Machine → Type 0
Record M = List (Made (ItemOf M))
