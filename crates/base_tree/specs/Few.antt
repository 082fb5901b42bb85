-- A few items that are given one by one.
use Rattle.std.specs.Prelude.{◌≡◌, ℕ, ◌-◌, Bool, true, List, [], ◌∷◌, ◌++◌, length, map, take, filter, Option, is_some}
use Rattle.std.specs.Borrow.{Bor}
use Rattle.std.specs.List.{AllByRecursion}
use Rattle.std.specs.Option.{option_copied, option_to_list}
use Rattle.std.specs.declared.cmp.Ordering.{Ordering}
use Rattle.base_tree.specs.Orders.{is_sought}

-- The items still to be given, in order, and the number of further items that there is room for.
pub record Batch (T : Type 0) : Type 0 where
  pub left : List T
  pub room : ℕ

-- The most items of a batch.
abbrev pub most : ℕ
most = 6

-- No item, and all the room.
abbrev pub no_item : {T : Type 0} → Batch T
no_item = record { left = []; room = most }

-- The batch with the first of the items added at the end, as many as there is room for.
abbrev pub with_first : {T : Type 0} → Batch T → List T → Batch T
with_first b xs = record { left = b.left ++ take b.room xs; room = b.room - length xs }

-- The shown parts of the entries in the zone that pass, in order.
abbrev pub all_shown : {K V T : Type 0} → (K × V → T) → (K → Ordering) → (K × V → Bool) → List (K × V) → List T
all_shown show place passes es = map show (filter (is_sought place passes) es)

-- The items in the places, in order.
unfoldable pub items_in : {T : Type 0} → List (Option (Bor T)) → List T
items_in [] = []
items_in (o ∷ os) = option_to_list (option_copied o) ++ items_in os

-- Each place has an item.
abbrev pub AreFilled : {T : Type 0} → List (Option (Bor T)) → Type 0
AreFilled os = AllByRecursion (λ o. is_some o ≡ true) os
