-- An index by cells: each tuple with its marks once more for each column after the first. The first needs none, as the rows are
-- in its order.
use Rattle.std.specs.Prelude.{◌≡◌, ℕ, Bool, ◌&&◌, cond, List, find, length, nat_lt, unwrap_or, Option, Some, None, ⊤}
use Rattle.std.specs.BTreeMap.{insert_entry}
use Rattle.std.specs.Option.{option_map}
use Rattle.std.specs.Ordering.{is_eq, nat_cmp}
use Rattle.std.specs.declared.cmp.Ordering.{Ordering}
use Rattle.base_types.specs.declared.tuples.Tuple.{Tuple}
use Rattle.base_types.specs.Meanings.{fact_of}
use Rattle.def_chase.specs.Values.{Fact, same_fact}
use Rattle.base_tree.specs.Orders.{without}
use Rattle.set_versions.specs.Cells.{same_cell}
use Rattle.set_versions.specs.Spots.{spot_of}
use Rattle.set_versions.specs.Spreads.{Spots, on_spots}
use Rattle.set_versions.specs.Marked.{no_marks, is_nowhere, marks_at}
use Rattle.set_versions.specs.declared.cells.Cell.{Cell}
use Rattle.set_versions.specs.declared.marks.Marks.{Marks}

-- The column and the tuple of a cell.
abbrev pub cell_of : Cell → ℕ × Fact
cell_of c = (c.column, fact_of c.tuple)

-- The marks of tuple t at column c among these cells.
abbrev pub cell_marks : List (Cell × Marks) → ℕ → Fact → Marks
cell_marks cells c t = unwrap_or (option_map (λ e. e.1) (find (λ e. same_cell (c, t) (cell_of e.0)) cells)) no_marks

-- The marks of tuple t at column c, found on the shelf of the cell's spot.
abbrev pub shelf_marks : (ℕ → List (Cell × Marks)) → ℕ → Fact → Marks
shelf_marks shelves c t = cell_marks (shelves (spot_of (c, t))) c t

-- Column c is a further one: not the first, and below n.
abbrev pub is_further : ℕ → ℕ → Bool
is_further c n = nat_lt 0 c && nat_lt c n

-- Each tuple has its marks at each of its further columns, and there is nothing else.
abbrev pub IsIndex : List (Tuple × Marks) → (ℕ → List (Cell × Marks)) → Type 0
IsIndex rows shelves = (c : ℕ) (t : Fact) → shelf_marks shelves c t ≡ cond (is_further c (length t.values)) (marks_at rows t) no_marks

-- Tuple s has the marks m at each of its further columns below n, and all other marks are unchanged.
abbrev pub CellsHave : Fact → ℕ → Marks → (ℕ → List (Cell × Marks)) → (ℕ → List (Cell × Marks)) → Type 0
CellsHave s n m old new = (c : ℕ) (t : Fact) → shelf_marks new c t ≡ cond (same_fact t s && is_further c n) m (shelf_marks old c t)

-- Tuple s has the marks m at column i, if that is a further one, and all other marks are unchanged.
abbrev pub CellHas : Fact → ℕ → Marks → (ℕ → List (Cell × Marks)) → (ℕ → List (Cell × Marks)) → Type 0
CellHas s i m old new = (c : ℕ) (t : Fact) → shelf_marks new c t ≡ cond (same_fact t s && (nat_lt 0 c && is_eq (nat_cmp c i))) m (shelf_marks old c t)

-- If there is an index, it is the index of the rows.
abbrev pub IsIndexed : List (Tuple × Marks) → Option Spots → Type 0
IsIndexed rows None = ⊤
IsIndexed rows (Some spots) = IsIndex rows (on_spots spots)

-- There is an index if there was one, and then it has the marks m at each further column of s.
abbrev pub IndexHas : Fact → Marks → Option Spots → Option Spots → Type 0
IndexHas s m None None = ⊤
IndexHas s m None (Some new) = ⊥
IndexHas s m (Some old) None = ⊥
IndexHas s m (Some old) (Some new) = CellsHave s (length s.values) m (on_spots old) (on_spots new)

-- The entries with m at the key, or without the key if m says that the tuple is nowhere.
abbrev pub set_entry : {K : Type 0} → (K → K → Ordering) → List (K × Marks) → K → Marks → List (K × Marks)
set_entry R es k m = cond (is_nowhere m) (without R k es) (insert_entry R es k m)
