-- The marks of each tuple are in order.
use Rattle.std.specs.Prelude.{ℕ, List}
use Rattle.std.specs.List.{AllByRecursion}
use Rattle.std.specs.Ordering.{nat_cmp, on}
use Rattle.std.specs.declared.cmp.Reverse.{Reverse}
use Rattle.std.specs.declared.cmp.Ordering.{Ordering}
use Rattle.base_types.specs.Meanings.{fact_of}
use Rattle.base_types.specs.declared.tuples.Tuple.{Tuple}
use Rattle.def_chase.specs.Values.{fact_cmp}
use Rattle.base_tree.specs.Orders.{IsOrdered}
use Rattle.set_versions.specs.declared.marks.Marks.{Marks}

-- The order of markers: the greatest number comes first.
abbrev pub newest_cmp : Reverse ℕ → Reverse ℕ → Ordering
newest_cmp x y = nat_cmp y.0 x.0

-- The markers of a tuple are in the order of their numbers.
abbrev pub AreMarks : Marks → Type 0
AreMarks m = IsOrdered newest_cmp m.chain

-- The markers of each tuple are in the order of their numbers.
abbrev pub AllMarked : List (Tuple × Marks) → Type 0
AllMarked rows = AllByRecursion (λ e. AreMarks e.1) rows

-- Tuples with their marks, in the order of the tuples.
pub record AreRows (rows : List (Tuple × Marks)) : Type 0 where
  pub order : IsOrdered (on fact_of fact_cmp) rows
  pub marks : AllMarked rows
