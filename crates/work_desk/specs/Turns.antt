-- What a seat adds in its turn.
use Rattle.std.specs.Prelude.{◌≡◌, ℕ, ◌++◌, List, [], ◌∷◌, Option, Some, None, min}
use Rattle.def_record.specs.Makers.{MadeBy, Unmade}
use Rattle.def_record.specs.declared.item.Item.{Item}
use Rattle.def_record.specs.declared.item.Item.TheVariants.{Opened, Entered, Gave, Returned}
use Rattle.def_record.specs.Items.{Record}
use Rattle.def_record.specs.Records.{Now}
use Rattle.def_history.specs.Cores.{Ground, machine}
use Rattle.work_desk.specs.Shared.{Items, StandsAt, record_over}

-- The desk stands at n after the items xs. The seat j adds items to them, which mean `added` in the record over the machine.
pub record Adds (j : ℕ) (g : Ground) (xs ys : Items) (n : Now (machine g)) (added : Record (machine g)) : Type 0 where
  pub stands : StandsAt g xs n
  pub items : Items
  pub joined : ys ≡ xs ++ items
  pub meant : record_over g items ≡ added
  pub made : MadeBy j items

-- First come items of seats other than j, and then `does` holds.
pub record AfterOthers (j : ℕ) (xs : Items) (does : Items → Type 0) : Type 0 where
  pub others : Items
  pub unmade : Unmade j others
  pub then : does (xs ++ others)

-- The least of a number, if there is one, and the numbers of a list.
abbrev pub least : Option ℕ → List ℕ → Option ℕ
least low [] = low
least None (u ∷ us) = least (Some u) us
least (Some n) (u ∷ us) = least (Some (min n u)) us

-- How many tickets an item gives; then, how many it returns.
abbrev pub gifts : {O E : Type 0} → Item O E → ℕ
gifts (Opened o n) = 0
gifts (Entered e) = 0
gifts (Gave t u) = 1
gifts (Returned t) = 0

abbrev pub returns : {O E : Type 0} → Item O E → ℕ
returns (Opened o n) = 0
returns (Entered e) = 0
returns (Gave t u) = 0
returns (Returned t) = 1
