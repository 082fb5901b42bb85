-- The first cell that is sought is at the least tuple that is scanned.
use Rattle.std.proofs.Common.{◌≡◌, ℕ, zero, suc, ◌<◌, ap, refl, sym, ◌∙◌, subst, List, [], ◌∷◌, Bool, true, false, ◌&&◌, ◌||◌, cond, find, filter, map, Option, Some, None, length, unwrap_or, arith}
use Rattle.std.proofs.lemmas.Bool.{lt-ltb, eqb-true, eq-eqb, true≢false}
use Rattle.std.specs.Prelude.{nat_lt, ◌==◌, slice_get}
use Rattle.std.specs.Cmp.{IsTotalOrder, tied_itself, on_total, nat_cmp_total}
use Rattle.std.specs.Cmp.Lexicographic.{options_total}
use Rattle.std.specs.List.{AllByRecursion}
use Rattle.std.specs.List.Sorted.{IsStrictlySortedBy}
use Rattle.std.specs.Option.{option_map}
use Rattle.std.specs.Ordering.{is_eq, on, ordering_then, ordering_reverse}
use Rattle.std.specs.declared.cmp.Ordering.{Ordering}
use Rattle.std.specs.declared.cmp.Ordering.TheVariants.{Less, Equal, Greater}
use Rattle.base_types.specs.Meanings.{fact_of}
use Rattle.base_types.specs.declared.tuples.Tuple.{Tuple}
use Rattle.def_chase.specs.Cursors.{is_of, is_beyond, has_at, is_datum, is_scanned, scan_of}
use Rattle.def_chase.specs.Repository.{has, IsRepository}
use Rattle.def_chase.specs.Values.{Datum, Fact, fact_cmp, same_fact}
use Rattle.def_chase.proofs.Bools.{differ, both, and-true}
use Rattle.def_chase.proofs.Sets.{filter_in_order, same_exact, same_itself, same_repository}
use Rattle.def_chase.proofs.Learning.{same_datum_exact}
use Rattle.def_chase.proofs.Members.{least_found, none_found, has-filter}
use Rattle.def_chase.proofs.Order.{datum_total}
use Rattle.base_tree.specs.Orders.{IsOrdered, is_sought}
use Rattle.base_tree.proofs.Sides.{sides, all_weaker}
use Rattle.base_tree.proofs.Changes.{find_none}
use Rattle.set_versions.specs.Cells.{value_in, values_cmp, cell_cmp, same_cell, cell_total}
use Rattle.set_versions.specs.Chains.{AreRows}
use Rattle.set_versions.specs.Indexed.{cell_of, cell_marks, is_further, IsIndex}
use Rattle.set_versions.specs.Spots.{spot}
use Rattle.set_versions.specs.Marked.{marks_at, no_marks, stands, visible}
use Rattle.set_versions.specs.Zones.{place_in}
use Rattle.set_versions.specs.declared.cells.Cell.{Cell}
use Rattle.set_versions.specs.declared.marks.Marks.{Marks}
use Rattle.set_versions.proofs.Placing.{cell_is_in}
use Rattle.set_versions.proofs.Seeing.{visible_in_order}
use Rattle.set_versions.proofs.Seen.{seen_stands}
use Rattle.set_versions.proofs.Setting.{cell_exact}

-- ---- lists in order

pub found_passes : {X : Type 0} (p : X → Bool) (xs : List X) {x : X} → find p xs ≡ Some x → p x ≡ true
found_passes p [] e = absurd (cc)
found_passes {X} p (y ∷ xs) {x} e = by (p y) refl e (found_passes p xs)
  where
    by : (b : Bool) → p y ≡ b → cond b (Some y) (find p xs) ≡ Some x → (find p xs ≡ Some x → p x ≡ true) → p x ≡ true
    by true h f rest = let same : y ≡ x = cc in subst (λ z. p z ≡ true) same h
    by false h f rest = rest f

-- What holds of all holds of what is found.
found_all : {X : Type 0} (P : X → Type 0) (p : X → Bool) (xs : List X) {x : X} → AllByRecursion P xs → find p xs ≡ Some x → P x
found_all P p [] a e = absurd (cc)
found_all {X} P p (y ∷ xs) {x} a e = by (p y) e (found_all P p xs a.1)
  where
    by : (b : Bool) → cond b (Some y) (find p xs) ≡ Some x → (find p xs ≡ Some x → P x) → P x
    by true f rest = let same : y ≡ x = cc in subst P same a.0
    by false f rest = rest f

-- Where nothing passes, nothing that is there does.
none_passes : {X : Type 0} (p q : X → Bool) (xs : List X) {x : X} → find p xs ≡ None → find q xs ≡ Some x → p x ≡ true → ⊥
none_passes p q [] n e h = cc
none_passes {X} p q (y ∷ xs) {x} n e h = by (p y) refl n (q y) e (λ m f. none_passes p q xs m f h)
  where
    by : (b : Bool) → p y ≡ b → cond b (Some y) (find p xs) ≡ None → (c : Bool) → cond c (Some y) (find q xs) ≡ Some x → (find p xs ≡ None → find q xs ≡ Some x → ⊥) → ⊥
    by true k m c f rest = cc
    by false k m true f rest = let same : y ≡ x = cc in true≢false (sym h ∙ ap p (sym same) ∙ k)
    by false k m false f rest = rest m f

module _ {K V : Type 0} {R : K → K → Ordering} (o : IsTotalOrder R) where
  after : (x : K × V) (es : List (K × V)) → IsOrdered R (x ∷ es) → AllByRecursion (λ (y : K × V). R x.0 y.0 ≡ Less) es
  after x es s = (sides R [] x es s).above

  -- The key of what is found is found at that entry.
  pub found_at : (p : K × V → Bool) (es : List (K × V)) {e : K × V} → IsOrdered R es → find p es ≡ Some e → find (λ f. is_eq (R e.0 f.0)) es ≡ Some e
  unfolding IsStrictlySortedBy
  found_at p [] s h = absurd (cc)
  found_at p (x ∷ es) {e} s h = by (p x) h (found_at p es s.1)
    where
      by : (b : Bool) → cond b (Some x) (find p es) ≡ Some e → (find p es ≡ Some e → find (λ (f : K × V). is_eq (R e.0 f.0)) es ≡ Some e) → cond (is_eq (R e.0 x.0)) (Some x) (find (λ (f : K × V). is_eq (R e.0 f.0)) es) ≡ Some e
      by true f rest =
          let same : x ≡ e = cc in
          ap (λ b. cond b (Some x) (find (λ (f : K × V). is_eq (R e.0 f.0)) es)) (ap (λ (z : K × V). is_eq (R e.0 z.0)) same ∙ ap is_eq (tied_itself o e.0)) ∙ ap (λ (z : K × V). Some z) same
      by false f rest =
          let above : R x.0 e.0 ≡ Less = found_all (λ (y : K × V). R x.0 y.0 ≡ Less) p es (after x es s) f in
          ap (λ a. cond (is_eq a) (Some x) (find (λ (f : K × V). is_eq (R e.0 f.0)) es)) (o.antisymm e.0 x.0 ∙ ap ordering_reverse above) ∙ rest f

  -- Nothing that passes and is there has a lower key than what is found.
  pub found_least : (p q : K × V → Bool) (es : List (K × V)) {e f : K × V} → IsOrdered R es → find p es ≡ Some e → find q es ≡ Some f → p f ≡ true → R f.0 e.0 ≡ Less → ⊥
  unfolding IsStrictlySortedBy
  found_least p q [] s h k pass low = cc
  found_least p q (x ∷ es) {e} {f} s h k pass low = by (p x) refl h (q x) k (λ a b. found_least p q es s.1 a b pass low)
    where
      by : (b : Bool) → p x ≡ b → cond b (Some x) (find p es) ≡ Some e → (c : Bool) → cond c (Some x) (find q es) ≡ Some f → (find p es ≡ Some e → find q es ≡ Some f → ⊥) → ⊥
      by true i a true b rest =
          let first : x ≡ e = cc in
          let second : x ≡ f = cc in
          let tied : R f.0 e.0 ≡ Equal = ap (λ (z : K × V). R z.0 e.0) (sym second) ∙ ap (λ (z : K × V). R x.0 z.0) (sym first) ∙ tied_itself o x.0 in
          absurd (cc)
      by true i a false b rest =
          let first : x ≡ e = cc in
          let above : R x.0 f.0 ≡ Less = found_all (λ (y : K × V). R x.0 y.0 ≡ Less) q es (after x es s) b in
          let turned : R f.0 x.0 ≡ Greater = o.antisymm f.0 x.0 ∙ ap ordering_reverse above in
          let again : R f.0 x.0 ≡ Less = ap (λ (z : K × V). R f.0 z.0) first ∙ low in
          absurd (cc)
      by false i a true b rest = let second : x ≡ f = cc in true≢false (sym pass ∙ ap p (sym second) ∙ i)
      by false i a false b rest = rest a b

-- ---- tests

first : (a b : Bool) → (a && b) ≡ true → a ≡ true
first true b h = refl
first false b h = h

second : (a b : Bool) → (a && b) ≡ true → b ≡ true
second true b h = h
second false b h = differ h

datum_there : (d : Datum) (o : Option Datum) → is_datum d o ≡ true → o ≡ Some d
datum_there d None h = differ h
datum_there d (Some e) h = ap (λ (x : Datum). Some x) (sym (same_datum_exact d e h))

long_enough : {X : Type 0} (xs : List X) (k : ℕ) {x : X} → slice_get xs k ≡ Some x → k < length xs
long_enough [] k h = absurd (cc)
long_enough (x ∷ xs) zero h = omega arith
long_enough (x ∷ xs) (suc k) h = let more = long_enough xs k h in omega (arith, more)

module _ (n r c : ℕ) (d : Datum) (past : Option Fact) where
  abbrev sought : Cell × Marks → Bool
  sought e = is_sought (λ k. place_in r c d past (cell_of k)) (λ f. stands n f.1) e

  abbrev scanned : Fact → Bool
  scanned u = is_scanned r c d past u

  has_column : (u : Fact) → scanned u ≡ true → nat_lt c (length u.values) ≡ true
  has_column u h =
      lt-ltb c (length u.values)
      (long_enough u.values c (datum_there d (slice_get u.values c) (second (is_beyond past u) (has_at c d u) (second (is_of r u) (is_beyond past u && has_at c d u) h))))

  further : (u : Fact) → scanned u ≡ true → nat_lt 0 c ≡ true → is_further c (length u.values) ≡ true
  further u h later = both (nat_lt 0 c) (nat_lt c (length u.values)) later (has_column u h)

  regroup : (a b e : Bool) → (a && (b && e)) ≡ true → (b && (e && a)) ≡ true
  regroup a b e h =
      both b (e && a) (first b e (second a (b && e) h)) (both e a (second b e (second a (b && e) h)) (first a (b && e) h))

  -- A cell that is sought is of a tuple that is scanned.
  sought_column : (e : Cell × Marks) → sought e ≡ true → e.0.column ≡ c
  sought_column e h =
      eqb-true e.0.column c
      (first (e.0.column == c) _ (sym (cell_is_in r c d past (cell_of e.0)) ∙ first (is_eq (place_in r c d past (cell_of e.0))) (stands n e.1) h))

  sought_tuple : (e : Cell × Marks) → sought e ≡ true → scanned (fact_of e.0.tuple) ≡ true
  sought_tuple e h =
      let u = fact_of e.0.tuple in
      let whole : (is_datum d (value_in (cell_of e.0)) && (is_of r u && is_beyond past u)) ≡ true =
      second (e.0.column == c) _ (sym (cell_is_in r c d past (cell_of e.0)) ∙ first (is_eq (place_in r c d past (cell_of e.0))) (stands n e.1) h) in
      regroup (has_at c d u) (is_of r u) (is_beyond past u) (ap (λ k. is_datum d (value_in (k, u)) && (is_of r u && is_beyond past u)) (sym (sought_column e h)) ∙ whole)

  sought_stands : (e : Cell × Marks) → sought e ≡ true → stands n e.1 ≡ true
  sought_stands e h = second (is_eq (place_in r c d past (cell_of e.0))) (stands n e.1) h

  -- And the other way round.
  scanned_sought : (u : Fact) (e : Cell × Marks) → (c, u) ≡ cell_of e.0 → scanned u ≡ true → stands n e.1 ≡ true → sought e ≡ true
  scanned_sought u e is h k =
      let at : has_at c d u ≡ true = second (is_beyond past u) (has_at c d u) (second (is_of r u) (is_beyond past u && has_at c d u) h) in
      let beyond : is_beyond past u ≡ true = first (is_beyond past u) (has_at c d u) (second (is_of r u) (is_beyond past u && has_at c d u) h) in
      let of : is_of r u ≡ true = first (is_of r u) (is_beyond past u && has_at c d u) h in
      both (is_eq (place_in r c d past (cell_of e.0))) (stands n e.1)
      (ap (λ x. is_eq (place_in r c d past x)) (sym is) ∙ cell_is_in r c d past (c, u) ∙ both (c == c) _ (eq-eqb c c refl) (both (has_at c d u) _ at (both (is_of r u) (is_beyond past u) of beyond)))
      k

  sought_value : (e : Cell × Marks) → sought e ≡ true → value_in (c, fact_of e.0.tuple) ≡ Some d
  sought_value e h =
      let t = fact_of e.0.tuple in
      datum_there d (value_in (c, t)) (second (is_beyond past t) (has_at c d t) (second (is_of r t) (is_beyond past t && has_at c d t) (sought_tuple e h)))

  -- ---- the tuples of all cells that are sought

  abbrev facts_in : List (Cell × Marks) → List Fact
  facts_in es = map (λ (t : Tuple). fact_of t) (map (λ (e : Cell × Marks). e.0.tuple) (filter sought es))

  -- Cells that are sought are in the order of their tuples.
  sought_cmp : (e f : Cell × Marks) → sought e ≡ true → sought f ≡ true → cell_cmp (cell_of e.0) (cell_of f.0) ≡ fact_cmp (fact_of e.0.tuple) (fact_of f.0.tuple)
  sought_cmp e f h k =
      let t = fact_of e.0.tuple in
      let u = fact_of f.0.tuple in
      ap (λ x. cell_cmp (x, t) (cell_of f.0)) (sought_column e h) ∙ ap (λ x. cell_cmp (c, t) (x, u)) (sought_column f k)
      ∙ ap (λ a. ordering_then a (ordering_then (values_cmp (value_in (c, t)) (value_in (c, u))) (fact_cmp t u))) (tied_itself nat_cmp_total c)
      ∙ ap (λ x. ordering_then (values_cmp x (value_in (c, u))) (fact_cmp t u)) (sought_value e h)
      ∙ ap (λ x. ordering_then (values_cmp (Some d) x) (fact_cmp t u)) (sought_value f k)
      ∙ ap (λ a. ordering_then a (fact_cmp t u)) (tied_itself (options_total datum_total) (Some d))

  facts_below : (x : Cell × Marks) → sought x ≡ true → (es : List (Cell × Marks)) → AllByRecursion (λ (y : Cell × Marks). cell_cmp (cell_of x.0) (cell_of y.0) ≡ Less) es → AllByRecursion (λ t. fact_cmp (fact_of x.0.tuple) t ≡ Less) (facts_in es)
  facts_below x h [] a = tt
  facts_below x h (y ∷ es) a = by (sought y) refl (facts_below x h es a.1)
    where
      by : (b : Bool) → sought y ≡ b → AllByRecursion (λ t. fact_cmp (fact_of x.0.tuple) t ≡ Less) (facts_in es)
          → AllByRecursion (λ t. fact_cmp (fact_of x.0.tuple) t ≡ Less) (map (λ (t : Tuple). fact_of t) (map (λ (e : Cell × Marks). e.0.tuple) (cond b (y ∷ filter sought es) (filter sought es))))
      by true k rest = (sym (sought_cmp x y h k) ∙ a.0, rest)
      by false k rest = rest

  facts_in_order : (es : List (Cell × Marks)) → IsOrdered (on cell_of cell_cmp) es → IsRepository (facts_in es)
  unfolding IsStrictlySortedBy
  facts_in_order [] s = tt
  facts_in_order (x ∷ es) s = by (sought x) refl (after (on_total cell_of cell_total) x es s) (facts_in_order es s.1)
    where
      by : (b : Bool) → sought x ≡ b → AllByRecursion (λ (y : Cell × Marks). cell_cmp (cell_of x.0) (cell_of y.0) ≡ Less) es → IsRepository (facts_in es)
          → IsStrictlySortedBy fact_cmp (map (λ (t : Tuple). fact_of t) (map (λ (e : Cell × Marks). e.0.tuple) (cond b (x ∷ filter sought es) (filter sought es))))
      by true k a rest = (facts_below x k es a, rest)
      by false k a rest = rest

  never : (b : Bool) → (b && false) ≡ false
  never true = refl
  never false = refl

  -- After a cell there is no other at its column and tuple.
  none_later : (u : Fact) (x : Cell × Marks) (es : List (Cell × Marks)) → (c, u) ≡ cell_of x.0 → AllByRecursion (λ (y : Cell × Marks). cell_cmp (cell_of x.0) (cell_of y.0) ≡ Less) es → find (λ (e : Cell × Marks). same_cell (c, u) (cell_of e.0)) es ≡ None
  none_later u x es is a =
      find_none (λ (e : Cell × Marks). same_cell (c, u) (cell_of e.0)) es (all_weaker _ _ (λ (y : Cell × Marks) b. ap is_eq (ap (λ z. cell_cmp z (cell_of y.0)) is ∙ b)) es a)

  -- The tuple is among them just where it is scanned and stands by the marks at its cell.
  facts_have : (u : Fact) (es : List (Cell × Marks)) → IsOrdered (on cell_of cell_cmp) es → has (facts_in es) u ≡ (scanned u && stands n (cell_marks es c u))
  unfolding IsStrictlySortedBy
  facts_have u [] s = sym (never (scanned u))
  facts_have u (x ∷ es) s = by (sought x) refl (same_cell (c, u) (cell_of x.0)) refl (after (on_total cell_of cell_total) x es s) (facts_have u es s.1)
    where
      here : sought x ≡ true → (c, u) ≡ cell_of x.0 → (scanned u && stands n x.1) ≡ true
      here h is = both (scanned u) (stands n x.1) (ap (λ (z : ℕ × Fact). scanned z.1) is ∙ sought_tuple x h) (sought_stands x h)

      off : sought x ≡ false → (c, u) ≡ cell_of x.0 → (a : Bool) → scanned u ≡ a → (b : Bool) → stands n x.1 ≡ b → (a && b) ≡ false
      off h is true i true j = absurd (true≢false (sym (scanned_sought u x is i j) ∙ h))
      off h is true i false j = refl
      off h is false i b j = refl

      other : sought x ≡ true → same_cell (c, u) (cell_of x.0) ≡ false → (b : Bool) → same_fact u (fact_of x.0.tuple) ≡ b → (b || has (facts_in es) u) ≡ has (facts_in es) u
      other h different true k =
          let at : cell_of x.0 ≡ (c, u) = λ i. (sought_column x h i, sym (same_exact u (fact_of x.0.tuple) k) i) in
          absurd (true≢false (sym (ap is_eq (tied_itself cell_total (c, u))) ∙ ap (same_cell (c, u)) (sym at) ∙ different))
      other h different false k = refl

      by : (a : Bool) → sought x ≡ a → (b : Bool) → same_cell (c, u) (cell_of x.0) ≡ b → AllByRecursion (λ (y : Cell × Marks). cell_cmp (cell_of x.0) (cell_of y.0) ≡ Less) es
          → has (facts_in es) u ≡ (scanned u && stands n (cell_marks es c u))
          → has (map (λ (t : Tuple). fact_of t) (map (λ (e : Cell × Marks). e.0.tuple) (cond a (x ∷ filter sought es) (filter sought es)))) u
          ≡ (scanned u && stands n (unwrap_or (option_map (λ (e : Cell × Marks). e.1) (cond b (Some x) (find (λ e. same_cell (c, u) (cell_of e.0)) es))) no_marks))
      by true h true k below rest =
          let is = cell_exact (c, u) (cell_of x.0) k in
          ap (λ t. same_fact u t || has (facts_in es) u) (sym (ap (λ (z : ℕ × Fact). z.1) is)) ∙ ap (λ b. b || has (facts_in es) u) (same_itself u) ∙ sym (here h is)
      by true h false k below rest = other h k (same_fact u (fact_of x.0.tuple)) refl ∙ rest
      by false h true k below rest =
          let is = cell_exact (c, u) (cell_of x.0) k in
          rest ∙ ap (λ o. scanned u && stands n (unwrap_or (option_map (λ (e : Cell × Marks). e.1) o) no_marks)) (none_later u x es is below) ∙ never (scanned u)
          ∙ sym (off h is (scanned u) refl (stands n x.1) refl)
      by false h false k below rest = rest

  -- ---- the index

  -- On the shelf of the spot are the marks of all tuples that are scanned.
  pub shelf_tells : (rows : List (Tuple × Marks)) (shelves : ℕ → List (Cell × Marks)) → IsIndex rows shelves → nat_lt 0 c ≡ true → {cells : List (Cell × Marks)} → cells ≡ shelves (spot r c (Some d))
      → (u : Fact) → scanned u ≡ true → cell_marks cells c u ≡ marks_at rows u
  shelf_tells rows shelves index later is u h =
      let at : value_in (c, u) ≡ Some d = datum_there d (slice_get u.values c) (second (is_beyond past u) (has_at c d u) (second (is_of r u) (is_beyond past u && has_at c d u) h)) in
      let of : u.relation ≡ r = eqb-true u.relation r (first (is_of r u) (is_beyond past u && has_at c d u) h) in
      ap (λ es. cell_marks es c u) (is ∙ ap (λ o. shelves (spot r c o)) (sym at) ∙ ap (λ k. shelves (spot k c (value_in (c, u)))) (sym of))
      ∙ index c u ∙ ap (λ b. cond b (marks_at rows u) no_marks) (further u h later)

  module _ (rows : List (Tuple × Marks)) (cells : List (Cell × Marks)) (order : AreRows rows) (sorted : IsOrdered (on cell_of cell_cmp) cells)
      (index : (u : Fact) → scanned u ≡ true → cell_marks cells c u ≡ marks_at rows u) where
    -- The cell of a tuple that is seen and scanned.
    pub record Held (u : Fact) : Type 0 where
      pub cell : Cell × Marks
      pub found : find (λ e. same_cell (c, u) (cell_of e.0)) cells ≡ Some cell
      pub is : (c, u) ≡ cell_of cell.0
      pub passes : sought cell ≡ true

    held : (u : Fact) → has (visible n rows) u ≡ true → scanned u ≡ true → Held u
    held u h k = by (find (λ e. same_cell (c, u) (cell_of e.0)) cells) refl (ap (stands n) (index u k) ∙ sym (seen_stands n rows order.order u) ∙ h)
      where
        by : (o : Option (Cell × Marks)) → find (λ e. same_cell (c, u) (cell_of e.0)) cells ≡ o → stands n (unwrap_or (option_map (λ (e : Cell × Marks). e.1) o) no_marks) ≡ true → Held u
        by None f s = differ s
        by (Some e) f s =
            let is : (c, u) ≡ cell_of e.0 = cell_exact (c, u) (cell_of e.0) (found_passes (λ (e : Cell × Marks). same_cell (c, u) (cell_of e.0)) cells f) in
            record { cell = e; found = f; is = is; passes = scanned_sought u e is k s }

    -- Where no cell is found, no tuple is.
    pub scan_none : find sought cells ≡ None → scan_of (visible n rows) r c d past ≡ None
    scan_none none =
        none_found scanned (visible n rows)
        (λ u h k. let x = held u h k in none_passes sought (λ e. same_cell (c, u) (cell_of e.0)) cells none x.found x.passes)

    -- The tuple of the cell that is found stands.
    stood : {e : Cell × Marks} → find sought cells ≡ Some e → has (visible n rows) (fact_of e.0.tuple) ≡ true
    stood {e} f =
        let h = found_passes sought cells f in
        let u = fact_of e.0.tuple in
        let at : cell_marks cells e.0.column u ≡ e.1 =
        ap (λ o. unwrap_or (option_map (λ (z : Cell × Marks). z.1) o) no_marks) (found_at (on_total cell_of cell_total) sought cells sorted f) in
        let same : marks_at rows u ≡ e.1 = sym (index u (sought_tuple e h)) ∙ ap (λ k. cell_marks cells k u) (sym (sought_column e h)) ∙ at in
        seen_stands n rows order.order u ∙ ap (stands n) same ∙ sought_stands e h

    lower : (u : Fact) (e f : Cell × Marks) → (c, u) ≡ cell_of f.0 → sought e ≡ true → scanned u ≡ true → fact_cmp u (fact_of e.0.tuple) ≡ Less → cell_cmp (cell_of f.0) (cell_of e.0) ≡ Less
    lower u e f is h k low =
        let t = fact_of e.0.tuple in
        let there : value_in (c, t) ≡ Some d =
        datum_there d (value_in (c, t)) (second (is_beyond past t) (has_at c d t) (second (is_of r t) (is_beyond past t && has_at c d t) (sought_tuple e h))) in
        let here : value_in (c, u) ≡ Some d =
        datum_there d (value_in (c, u)) (second (is_beyond past u) (has_at c d u) (second (is_of r u) (is_beyond past u && has_at c d u) k)) in
        ap (λ x. cell_cmp x (cell_of e.0)) (sym is) ∙ ap (λ k. cell_cmp (c, u) (k, t)) (sought_column e h)
        ∙ ap (λ a. ordering_then a (ordering_then (values_cmp (value_in (c, u)) (value_in (c, t))) (fact_cmp u t))) (tied_itself nat_cmp_total c)
        ∙ ap (λ x. ordering_then (values_cmp x (value_in (c, t))) (fact_cmp u t)) here
        ∙ ap (λ x. ordering_then (values_cmp (Some d) x) (fact_cmp u t)) there
        ∙ ap (λ a. ordering_then a (fact_cmp u t)) (tied_itself (options_total datum_total) (Some d)) ∙ low

    -- Where a cell is found, its tuple is.
    pub scan_some : {e : Cell × Marks} → find sought cells ≡ Some e → scan_of (visible n rows) r c d past ≡ Some (fact_of e.0.tuple)
    scan_some {e} f =
        let h = found_passes sought cells f in
        least_found scanned (visible n rows) (fact_of e.0.tuple) (visible_in_order n rows order.order) (stood f) (sought_tuple e h)
        (λ u a k low. let x = held u a k in found_least (on_total cell_of cell_total) sought (λ e. same_cell (c, u) (cell_of e.0)) cells sorted f x.found x.passes (lower u e x.cell x.is h k low))

    -- The tuples of all cells that are sought are all that are scanned.
    pub scan_all : map fact_of (map (λ (e : Cell × Marks). e.0.tuple) (filter sought cells)) ≡ filter scanned (visible n rows)
    scan_all =
        same_repository (facts_in cells) (filter scanned (visible n rows)) (facts_in_order cells sorted) (filter_in_order scanned (visible n rows) (visible_in_order n rows order.order))
        (λ u. facts_have u cells sorted ∙ by u (scanned u) refl ∙ sym (has-filter scanned (visible n rows) u))
      where
        by : (u : Fact) (b : Bool) → scanned u ≡ b → (b && stands n (cell_marks cells c u)) ≡ (has (visible n rows) u && b)
        by u true h =
            ap (stands n) (index u h) ∙ sym (seen_stands n rows order.order u) ∙ sym (and-true (has (visible n rows) u))
        by u false h = sym (never (has (visible n rows) u))
