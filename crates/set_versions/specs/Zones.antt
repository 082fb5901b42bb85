-- Whether a tuple or a cell comes before, among or after the tuples or cells that are searched for.
use Rattle.std.specs.Prelude.{ℕ, cond, Option, Some}
use Rattle.std.specs.declared.cmp.Ordering.{Ordering}
use Rattle.std.specs.declared.cmp.Ordering.TheVariants.{Less, Equal}
use Rattle.std.specs.Ordering.{nat_cmp, ordering_then}
use Rattle.def_chase.specs.Values.{Datum, Fact}
use Rattle.def_chase.specs.Cursors.{is_beyond}
use Rattle.set_versions.specs.Cells.{value_in, values_cmp}

-- Relative to the tuples that come after the given tuple, if one is given.
abbrev pub place_beyond : Option Fact → Fact → Ordering
place_beyond past u = cond (is_beyond past u) Equal Less

-- Relative to the tuples of relation r that come after the given tuple, if one is given.
abbrev pub place_of : ℕ → Option Fact → Fact → Ordering
place_of r past u = ordering_then (nat_cmp u.relation r) (place_beyond past u)

-- Relative to the cells of such tuples that have the value d in column c.
abbrev pub place_in : ℕ → ℕ → Datum → Option Fact → ℕ × Fact → Ordering
place_in r c d past x = ordering_then (nat_cmp x.0 c) (ordering_then (values_cmp (value_in x) (Some d)) (place_of r past x.1))

-- Relative to the tuples of relation r that have the value d in the first column and come after the given tuple, if one is given.
abbrev pub place_lead : ℕ → Datum → Option Fact → Fact → Ordering
place_lead r d past u = ordering_then (nat_cmp u.relation r) (ordering_then (values_cmp (value_in (0, u)) (Some d)) (place_beyond past u))

-- A search by update `number` for the tuples of a relation that have a value in the first column and come after the given tuple,
-- if one is given.
pub record Leading : Type 0 where
  pub number : ℕ
  pub relation : ℕ
  pub value : Datum
  pub past : Option Fact
