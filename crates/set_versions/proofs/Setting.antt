-- Marks that are set at a tuple and at each of its cells keep the index.
use Rattle.std.proofs.Common.{◌≡◌, ℕ, zero, suc, ◌+◌, ◌<◌, ap, refl, sym, subst, ◌∙◌, List, [], Bool, true, false, ◌&&◌, ◌||◌, cond, length, Option, Some, None, arith}
use Rattle.std.proofs.lemmas.Bool.{lt-ltb, le-ltb}
use Rattle.std.proofs.lemmas.Cmp.{ranked}
use Rattle.std.specs.Prelude.{nat_lt}
use Rattle.std.specs.Cmp.{Equal-is, on_total, tied_then, tied_itself}
use Rattle.std.specs.Cmp.Lexicographic.{options_total}
use Rattle.std.specs.Ordering.{is_eq, nat_cmp, on, ordering_then, MatchOrdering}
use Rattle.std.specs.declared.cmp.Ordering.{Ordering}
use Rattle.std.specs.declared.cmp.Ordering.TheVariants.{Less, Equal, Greater}
use Rattle.base_types.specs.Meanings.{fact_of}
use Rattle.base_types.specs.declared.tuples.Tuple.{Tuple}
use Rattle.def_chase.specs.Values.{Fact, fact_cmp, same_fact}
use Rattle.def_chase.proofs.Order.{datum_total, fact_total}
use Rattle.def_chase.proofs.Bools.{and-false, differ}
use Rattle.def_chase.proofs.Sets.{same_exact}
use Rattle.set_versions.specs.Cells.{value_in, values_cmp, cell_cmp, same_cell, cell_total}
use Rattle.set_versions.specs.Spots.{spot_of}
use Rattle.set_versions.specs.Indexed.{cell_of, cell_marks, shelf_marks, is_further, IsIndex, IsIndexed, IndexHas, CellHas, CellsHave, set_entry}
use Rattle.set_versions.specs.Spreads.{Spots, on_spots}
use Rattle.set_versions.specs.Marked.{marks_at, no_marks}
use Rattle.set_versions.specs.declared.cells.Cell.{Cell}
use Rattle.set_versions.specs.declared.marks.Marks.{Marks}
use Rattle.base_tree.specs.Orders.{IsOrdered}
use Rattle.base_tree.proofs.Keeping.{ordered_empty}
use Rattle.set_versions.specs.Chains.{AreMarks, AllMarked, AreRows}
use Rattle.set_versions.proofs.Looking.{marks_set, all_set}

-- ---- cells

same_value : (c i : ℕ) (t s : Fact) → c ≡ i → (is_eq (values_cmp (value_in (c, t)) (value_in (i, s))) && same_fact t s) ≡ same_fact t s
same_value c i t s e = by (same_fact t s) refl
  where
    by : (b : Bool) → same_fact t s ≡ b → (is_eq (values_cmp (value_in (c, t)) (value_in (i, s))) && b) ≡ b
    by true h =
        let there : value_in (c, t) ≡ value_in (i, s) = ap (λ k. value_in (k, t)) e ∙ ap (λ u. value_in (i, u)) (same_exact t s h) in
        ap (λ v. is_eq (values_cmp (value_in (c, t)) v) && true) (sym there) ∙ ap (λ o. is_eq o && true) (tied_itself (options_total datum_total) (value_in (c, t)))
    by false h = and-false (is_eq (values_cmp (value_in (c, t)) (value_in (i, s))))

-- A cell is that of a column and a tuple where both are the same.
pub same_cell_is : (c i : ℕ) (t s : Fact) → same_cell (c, t) (i, s) ≡ (same_fact t s && is_eq (nat_cmp c i))
same_cell_is c i t s =
    sym (tied_then (nat_cmp c i) (ordering_then (values_cmp (value_in (c, t)) (value_in (i, s))) (fact_cmp t s)))
    ∙ ap (λ b. is_eq (nat_cmp c i) && b) (sym (tied_then (values_cmp (value_in (c, t)) (value_in (i, s))) (fact_cmp t s)))
    ∙ by (nat_cmp c i) (ranked c i (nat_cmp c i) refl)
  where
    true_last : (b : Bool) → b ≡ (b && true)
    true_last true = refl
    true_last false = refl

    by : (o : Ordering) → MatchOrdering o (c < i) (c ≡ i) (i < c) → (is_eq o && (is_eq (values_cmp (value_in (c, t)) (value_in (i, s))) && same_fact t s)) ≡ (same_fact t s && is_eq o)
    by Less m = sym (and-false (same_fact t s))
    by Equal m = same_value c i t s m ∙ true_last (same_fact t s)
    by Greater m = sym (and-false (same_fact t s))

pub cell_exact : (x y : ℕ × Fact) → same_cell x y ≡ true → x ≡ y
cell_exact x y h = λ k. (column k, tuple k)
  where
    first : (a b : Bool) → (a && b) ≡ true → a ≡ true
    first true b h = refl
    first false b h = h

    second : (a b : Bool) → (a && b) ≡ true → b ≡ true
    second true b h = h
    second false b h = absurd (cc)

    both : (same_fact x.1 y.1 && is_eq (nat_cmp x.0 y.0)) ≡ true
    both = sym (same_cell_is x.0 y.0 x.1 y.1) ∙ h

    equal : (o : Ordering) → MatchOrdering o (x.0 < y.0) (x.0 ≡ y.0) (y.0 < x.0) → is_eq o ≡ true → x.0 ≡ y.0
    equal Less m e = absurd (cc)
    equal Equal m e = m
    equal Greater m e = absurd (cc)

    column : x.0 ≡ y.0
    column = equal (nat_cmp x.0 y.0) (ranked x.0 y.0 (nat_cmp x.0 y.0) refl) (second (same_fact x.1 y.1) (is_eq (nat_cmp x.0 y.0)) both)

    tuple : x.1 ≡ y.1
    tuple = same_exact x.1 y.1 (first (same_fact x.1 y.1) (is_eq (nat_cmp x.0 y.0)) both)

one_cell : (x : ℕ × Fact) (y z : Cell) → same_cell x (cell_of y) ≡ true → same_cell x (cell_of z) ≡ is_eq (cell_cmp (cell_of y) (cell_of z))
one_cell x y z h = ap is_eq (cell_total.congr x (cell_of y) (cell_of z) ((Equal-is (cell_cmp x (cell_of y))).0 h))

below_next : (c i : ℕ) → nat_lt c (i + 1) ≡ (is_eq (nat_cmp c i) || nat_lt c i)
below_next c i = by (nat_cmp c i) (ranked c i (nat_cmp c i) refl)
  where
    by : (o : Ordering) → MatchOrdering o (c < i) (c ≡ i) (i < c) → nat_lt c (i + 1) ≡ (is_eq o || nat_lt c i)
    by Less m = lt-ltb c (i + 1) (omega arith) ∙ sym (lt-ltb c i m)
    by Equal m = lt-ltb c (i + 1) (omega arith)
    by Greater m = le-ltb c (i + 1) (omega arith) ∙ sym (le-ltb c i (omega arith))

-- The first column has no cell.
pub has_first : (s : Fact) (i : ℕ) (m : Marks) (cells : ℕ → List (Cell × Marks)) → i ≡ 0 → CellHas s i m cells cells
has_first s i m cells e c t = ap (λ b. cond b m (shelf_marks cells c t)) (sym (ap (λ b. same_fact t s && b) (ap (λ k. nat_lt 0 c && is_eq (nat_cmp c k)) e ∙ none c) ∙ and-false (same_fact t s)))
  where
    by : (c : ℕ) (o : Ordering) → MatchOrdering o (c < 0) (c ≡ 0) (0 < c) → (nat_lt 0 c && is_eq o) ≡ false
    by c Less m = and-false (nat_lt 0 c)
    by c Equal m = ap (λ b. b && true) (le-ltb 0 c (omega (arith, m)))
    by c Greater m = and-false (nat_lt 0 c)

    none : (c : ℕ) → (nat_lt 0 c && is_eq (nat_cmp c 0)) ≡ false
    none c = by c (nat_cmp c 0) (ranked c 0 (nat_cmp c 0) refl)

pub positive : (c : ℕ) → (c ≡ 0 → ⊥) → 0 < c
positive zero h = absurd (h refl)
positive (suc c) h = omega arith

-- A further column has its cell, once the marks are set there on the shelf of its spot.
pub has_further : (s : Fact) (i : ℕ) (m : Marks) (old new : ℕ → List (Cell × Marks)) (same : ℕ → ℕ → Bool) (k : Cell) (n : Marks) (spot : ℕ) → 0 < i → ((j : ℕ) → same j j ≡ true)
    → ((j : ℕ) → new j ≡ cond (same j spot) (set_entry (on cell_of cell_cmp) (old j) k n) (old j)) → spot ≡ spot_of (cell_of k) → k.column ≡ i → fact_of k.tuple ≡ s → n ≡ m → CellHas s i m old new
has_further s i m old new same k n spot later itself set at column tuple marks c t =
    ap (λ es. cell_marks es c t) (set place)
    ∙ there (same place spot) refl (same_cell (c, t) (cell_of k)) refl
    ∙ ap (λ z. cond (same_cell (c, t) (cell_of k)) z (cell_marks (old place) c t)) marks
    ∙ ap (λ b. cond b m (cell_marks (old place) c t)) (ap (λ z. same_cell (c, t) (z, fact_of k.tuple)) column ∙ ap (λ z. same_cell (c, t) (i, z)) tuple ∙ same_cell_is c i t s ∙ ap (λ b. same_fact t s && b) (more (nat_cmp c i) (ranked c i (nat_cmp c i) refl)))
  where
    place : ℕ
    place = spot_of (c, t)

    there : (a : Bool) → same place spot ≡ a → (b : Bool) → same_cell (c, t) (cell_of k) ≡ b
        → cell_marks (cond a (set_entry (on cell_of cell_cmp) (old place) k n) (old place)) c t ≡ cond (same_cell (c, t) (cell_of k)) n (cell_marks (old place) c t)
    there true h b e = marks_set (on_total cell_of cell_total) (λ x. same_cell (c, t) (cell_of x)) (λ y z h. one_cell (c, t) y z h) (old place) k n
    there false h true e = differ (sym h ∙ ap (same place) (at ∙ ap spot_of (sym (cell_exact (c, t) (cell_of k) e))) ∙ itself place)
    there false h false e = sym (ap (λ b. cond b n (cell_marks (old place) c t)) e)

    more : (o : Ordering) → MatchOrdering o (c < i) (c ≡ i) (i < c) → is_eq o ≡ (nat_lt 0 c && is_eq o)
    more Less m = sym (and-false (nat_lt 0 c))
    more Equal m = ap (λ b. b && true) (sym (lt-ltb 0 c (omega (arith, later, m))))
    more Greater m = sym (and-false (nat_lt 0 c))

-- With the marks at one column more.
pub have_more : (s : Fact) (i : ℕ) (m : Marks) (old mid new : ℕ → List (Cell × Marks)) → CellsHave s i m old mid → CellHas s i m mid new → CellsHave s (i + 1) m old new
have_more s i m old mid new had has c t =
    has c t
    ∙ ap (cond (same_fact t s && (nat_lt 0 c && is_eq (nat_cmp c i))) m) (had c t)
    ∙ by (same_fact t s) (nat_lt 0 c) (is_eq (nat_cmp c i)) (nat_lt c i)
    ∙ ap (λ b. cond (same_fact t s && (nat_lt 0 c && b)) m (shelf_marks old c t)) (sym (below_next c i))
  where
    by : (a f b e : Bool) → cond (a && (f && b)) m (cond (a && (f && e)) m (shelf_marks old c t)) ≡ cond (a && (f && (b || e))) m (shelf_marks old c t)
    by true true true e = refl
    by true true false e = refl
    by true false b e = refl
    by false f b e = refl

-- ---- rows

one_row : (t : Fact) (y z : Tuple) → same_fact t (fact_of y) ≡ true → same_fact t (fact_of z) ≡ is_eq (fact_cmp (fact_of y) (fact_of z))
one_row t y z h = ap (λ u. same_fact u (fact_of z)) (same_exact t (fact_of y) h)

pub row_set : (old new : List (Tuple × Marks)) (k : Tuple) (s : Fact) (m : Marks) → new ≡ set_entry (on fact_of fact_cmp) old k m → fact_of k ≡ s → (t : Fact) → marks_at new t ≡ cond (same_fact t s) m (marks_at old t)
row_set old new k s m set tuple t =
    ap (λ es. marks_at es t) set ∙ marks_set (on_total fact_of fact_total) (λ x. same_fact t (fact_of x)) (one_row t) old k m ∙ ap (λ z. cond (same_fact t z) m (marks_at old t)) tuple

pub index_kept : (s : Fact) (m : Marks) (rows more : List (Tuple × Marks)) (cells after : ℕ → List (Cell × Marks)) → IsIndex rows cells → CellsHave s (length s.values) m cells after
    → ((t : Fact) → marks_at more t ≡ cond (same_fact t s) m (marks_at rows t)) → IsIndex more after
index_kept s m rows more cells after index have set c t = have c t ∙ by (same_fact t s) refl
  where
    at : (b : Bool) → is_further c (length t.values) ≡ b → same_fact t s ≡ true → cond b m (shelf_marks cells c t) ≡ cond b (marks_at more t) no_marks
    at true e h = sym (set t ∙ ap (λ z. cond z m (marks_at rows t)) h)
    at false e h = index c t ∙ ap (λ z. cond z (marks_at rows t) no_marks) e

    by : (b : Bool) → same_fact t s ≡ b → cond (b && is_further c (length s.values)) m (shelf_marks cells c t) ≡ cond (is_further c (length t.values)) (marks_at more t) no_marks
    by true h =
        ap (λ u. cond (is_further c (length u.values)) m (shelf_marks cells c t)) (sym (same_exact t s h)) ∙ at (is_further c (length t.values)) refl h
    by false h =
        index c t ∙ ap (λ z. cond (is_further c (length t.values)) z no_marks) (sym (set t ∙ ap (λ z. cond z m (marks_at rows t)) h))

-- The index that there is.
pub index_there : (rows : List (Tuple × Marks)) {index : Option Spots} (spots : Spots) → IsIndexed rows index → index ≡ Some spots → IsIndex rows (on_spots spots)
index_there rows spots h e = subst (IsIndexed rows) e h

-- The index stays one where there is one.
pub indexed_kept : (s : Fact) (m : Marks) (rows more : List (Tuple × Marks)) (old new : Option Spots) → IsIndexed rows old → IndexHas s m old new
    → ((t : Fact) → marks_at more t ≡ cond (same_fact t s) m (marks_at rows t)) → IsIndexed more new
indexed_kept s m rows more None None index has set = tt
indexed_kept s m rows more None (Some new) index has set = absurd has
indexed_kept s m rows more (Some old) None index has set = absurd has
indexed_kept s m rows more (Some old) (Some new) index has set = index_kept s m rows more (on_spots old) (on_spots new) index has set

-- Nothing is indexed where there is nothing.
pub index_empty : {rows : List (Tuple × Marks)} {cells : ℕ → List (Cell × Marks)} → rows ≡ [] → ((j : ℕ) → cells j ≡ []) → IsIndex rows cells
index_empty {rows} {cells} e f c t =
    ap (λ es. cell_marks es c t) (f (spot_of (c, t))) ∙ by (is_further c (length t.values)) ∙ ap (λ es. cond (is_further c (length t.values)) (marks_at es t) no_marks) (sym e)
  where
    by : (b : Bool) → no_marks ≡ cond b no_marks no_marks
    by true = refl
    by false = refl

-- Rows stay rows.
pub rows_set : (old : List (Tuple × Marks)) {new : List (Tuple × Marks)} (k : Tuple) (m : Marks) → new ≡ set_entry (on fact_of fact_cmp) old k m → IsOrdered (on fact_of fact_cmp) new → AllMarked old → AreMarks m → AreRows new
rows_set old k m set order marks own = record { order = order; marks = subst AllMarked (sym set) (all_set (on fact_of fact_cmp) (λ (e : Tuple × Marks). AreMarks e.1) old k m marks own (λ _ _ _. own)) }

-- No rows are rows.
pub rows_empty : {rows : List (Tuple × Marks)} → rows ≡ [] → AreRows rows
rows_empty e = subst AreRows (sym e) (record { order = ordered_empty {V = Marks} (on fact_of fact_cmp) refl; marks = tt })
