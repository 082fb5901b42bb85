-- Cells: a tuple at one of its columns. They are ordered by column, the value there, and the tuple.
use Rattle.std.specs.Prelude.{ℕ, Bool, Option, slice_get}
use Rattle.std.specs.Cmp.{IsTotalOrder, nat_cmp_total, on_total, then_total}
use Rattle.std.specs.Cmp.Lexicographic.{options_total}
use Rattle.std.specs.Option.{option_cmp}
use Rattle.std.specs.Ordering.{nat_cmp, ordering_then, is_eq}
use Rattle.std.specs.declared.cmp.Ordering.{Ordering}
use Rattle.def_chase.specs.Values.{Datum, Fact, datum_cmp, fact_cmp}
use Rattle.def_chase.proofs.Order.{datum_total, fact_total}

-- The value in the cell, if the tuple has the column.
abbrev pub value_in : ℕ × Fact → Option Datum
value_in x = slice_get x.1.values x.0

abbrev pub values_cmp : Option Datum → Option Datum → Ordering
values_cmp = option_cmp datum_cmp

abbrev pub cell_cmp : ℕ × Fact → ℕ × Fact → Ordering
cell_cmp x y = ordering_then (nat_cmp x.0 y.0) (ordering_then (values_cmp (value_in x) (value_in y)) (fact_cmp x.1 y.1))

-- The two cells are the same.
abbrev pub same_cell : ℕ × Fact → ℕ × Fact → Bool
same_cell x y = is_eq (cell_cmp x y)

pub cell_total : IsTotalOrder cell_cmp
cell_total = then_total (on_total (λ (x : ℕ × Fact). x.0) nat_cmp_total) (then_total (on_total value_in (options_total datum_total)) (on_total (λ (x : ℕ × Fact). x.1) fact_total))
