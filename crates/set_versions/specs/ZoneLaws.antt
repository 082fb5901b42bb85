-- If a key lies before the keys that are searched for, so do all keys below it; if it lies after them, so do all keys above it.
use Rattle.std.proofs.Common.{◌≡◌, ℕ, ap, refl, sym, ◌∙◌, Bool, true, false, cond, Option, Some, None, List, [], ◌∷◌, slice_get}
use Rattle.std.specs.Cmp.{IsTotalOrder, nat_cmp_total}
use Rattle.std.specs.Cmp.Lexicographic.{options_total, slice_cmp}
use Rattle.std.specs.Ordering.{nat_cmp, ordering_reverse, ordering_then}
use Rattle.std.specs.declared.cmp.Ordering.{Ordering}
use Rattle.std.specs.declared.cmp.Ordering.TheVariants.{Less, Equal, Greater}
use Rattle.def_chase.specs.Values.{Datum, Fact, datum_cmp, fact_cmp}
use Rattle.def_chase.specs.Cursors.{is_beyond}
use Rattle.def_chase.proofs.Order.{datum_total, fact_total}
use Rattle.base_tree.specs.Rising.{lt_rises}
use Rattle.set_versions.specs.Cells.{value_in, values_cmp, cell_cmp}
use Rattle.set_versions.specs.Zones.{place_beyond, place_of, place_in, place_lead}

-- ---- one comparison, and then another

first_up : (a b : Ordering) → ordering_then a b ≡ Less → a ≡ Greater → ⊥
first_up Less b h g = cc
first_up Equal b h g = cc
first_up Greater b h g = cc

then_second : (a b : Ordering) → ordering_then a b ≡ Less → a ≡ Equal → b ≡ Less
then_second Less b h e = cc
then_second Equal b h e = h
then_second Greater b h e = cc

module _ {X Y : Type 0} {P : Y → Y → Ordering} (o : IsTotalOrder P) (f : X → Y) (k : Y) (q : X → Ordering) (x y : X) where
  greater_up : P k (f y) ≡ Less → ordering_then (P (f y) k) (q y) ≡ Greater
  greater_up h = ap (λ a. ordering_then a (q y)) (o.antisymm (f y) k ∙ ap ordering_reverse h)

  less_down : P k (f x) ≡ Greater → ordering_then (P (f x) k) (q x) ≡ Less
  less_down h = ap (λ a. ordering_then a (q x)) (o.antisymm (f x) k ∙ ap ordering_reverse h)

  -- If a key lies after the searched ones, by a first comparison with k and then by q, so do all keys that come later.
  then_past : (P (f x) (f y) ≡ Greater → ⊥) → (P (f x) (f y) ≡ Equal → q x ≡ Greater → q y ≡ Greater) → ordering_then (P (f x) k) (q x) ≡ Greater → ordering_then (P (f y) k) (q y) ≡ Greater
  then_past up past = by (P (f x) (f y)) refl (P (f x) k) refl
    where
      by : (a : Ordering) → P (f x) (f y) ≡ a → (b : Ordering) → P (f x) k ≡ b → ordering_then b (q x) ≡ Greater → ordering_then (P (f y) k) (q y) ≡ Greater
      by Less i Less j h = cc
      by Less i Equal j h = greater_up (sym (o.congr (f x) k (f y) j) ∙ i)
      by Less i Greater j h = greater_up (o.trans k (f x) (f y) (o.antisymm k (f x) ∙ ap ordering_reverse j) i)
      by Equal i Less j h = cc
      by Equal i Equal j h = ap (λ a. ordering_then a (q y)) (sym (o.congr (f x) (f y) k i) ∙ j) ∙ past i h
      by Equal i Greater j h = ap (λ a. ordering_then a (q y)) (sym (o.congr (f x) (f y) k i) ∙ j)
      by Greater i b j h = absurd (up i)

  -- If a key lies before them, so do all keys that come earlier.
  then_before : (P (f x) (f y) ≡ Greater → ⊥) → (P (f x) (f y) ≡ Equal → q y ≡ Less → q x ≡ Less) → ordering_then (P (f y) k) (q y) ≡ Less → ordering_then (P (f x) k) (q x) ≡ Less
  then_before up before = by (P (f x) (f y)) refl (P (f y) k) refl
    where
      by : (a : Ordering) → P (f x) (f y) ≡ a → (b : Ordering) → P (f y) k ≡ b → ordering_then b (q y) ≡ Less → ordering_then (P (f x) k) (q x) ≡ Less
      by Less i Less j h = ap (λ a. ordering_then a (q x)) (o.trans (f x) (f y) k i j)
      by Less i Equal j h = less_down (sym (o.congr (f y) k (f x) j) ∙ o.antisymm (f y) (f x) ∙ ap ordering_reverse i)
      by Less i Greater j h = cc
      by Equal i Less j h = ap (λ a. ordering_then a (q x)) (o.congr (f x) (f y) k i ∙ j)
      by Equal i Equal j h = ap (λ a. ordering_then a (q x)) (o.congr (f x) (f y) k i ∙ j) ∙ before i h
      by Equal i Greater j h = cc
      by Greater i b j h = absurd (up i)

-- ---- beyond a tuple

beyond_rises : (past : Option Fact) (x y : Fact) → fact_cmp x y ≡ Less → is_beyond past x ≡ true → is_beyond past y ≡ true
beyond_rises None x y h e = refl
beyond_rises (Some t) x y h e = lt_rises fact_total t x y h e

pub beyond_past : (past : Option Fact) (x y : Fact) → fact_cmp x y ≡ Less → place_beyond past x ≡ Greater → place_beyond past y ≡ Greater
beyond_past past x y h e = by (is_beyond past x) e
  where
    by : (b : Bool) → cond b Equal Less ≡ Greater → place_beyond past y ≡ Greater
    by true e = cc
    by false e = cc

pub beyond_before : (past : Option Fact) (x y : Fact) → fact_cmp x y ≡ Less → place_beyond past y ≡ Less → place_beyond past x ≡ Less
beyond_before past x y h e = by (is_beyond past x) refl
  where
    no : is_beyond past y ≡ true → {P : Type 0} → P
    no f = let bad : Equal ≡ Less = sym (ap (λ b. cond b Equal Less) f) ∙ e in absurd (cc)

    by : (b : Bool) → is_beyond past x ≡ b → cond b Equal Less ≡ Less
    by true f = no (beyond_rises past x y h f)
    by false f = refl

-- ---- of a relation

pub of_past : (r : ℕ) (past : Option Fact) (x y : Fact) → fact_cmp x y ≡ Less → place_of r past x ≡ Greater → place_of r past y ≡ Greater
of_past r past x y h =
    then_past nat_cmp_total (λ (t : Fact). t.relation) r (place_beyond past) x y (first_up (nat_cmp x.relation y.relation) _ h) (λ _. beyond_past past x y h)

pub of_before : (r : ℕ) (past : Option Fact) (x y : Fact) → fact_cmp x y ≡ Less → place_of r past y ≡ Less → place_of r past x ≡ Less
of_before r past x y h =
    then_before nat_cmp_total (λ (t : Fact). t.relation) r (place_beyond past) x y (first_up (nat_cmp x.relation y.relation) _ h) (λ _. beyond_before past x y h)

-- ---- at a value in a column

abbrev by_value : ℕ → Datum → Option Fact → ℕ × Fact → Ordering
by_value r d past x = ordering_then (values_cmp (value_in x) (Some d)) (place_of r past x.1)

abbrev value_cmp : ℕ × Fact → ℕ × Fact → Ordering
value_cmp x y = ordering_then (values_cmp (value_in x) (value_in y)) (fact_cmp x.1 y.1)

value_past : (r : ℕ) (d : Datum) (past : Option Fact) (x y : ℕ × Fact) → value_cmp x y ≡ Less → by_value r d past x ≡ Greater → by_value r d past y ≡ Greater
value_past r d past x y h =
    then_past (options_total datum_total) value_in (Some d) (λ z. place_of r past z.1) x y (first_up (values_cmp (value_in x) (value_in y)) _ h)
    (λ e. of_past r past x.1 y.1 (then_second (values_cmp (value_in x) (value_in y)) _ h e))

value_before : (r : ℕ) (d : Datum) (past : Option Fact) (x y : ℕ × Fact) → value_cmp x y ≡ Less → by_value r d past y ≡ Less → by_value r d past x ≡ Less
value_before r d past x y h =
    then_before (options_total datum_total) value_in (Some d) (λ z. place_of r past z.1) x y (first_up (values_cmp (value_in x) (value_in y)) _ h)
    (λ e. of_before r past x.1 y.1 (then_second (values_cmp (value_in x) (value_in y)) _ h e))

pub in_past : (r c : ℕ) (d : Datum) (past : Option Fact) (x y : ℕ × Fact) → cell_cmp x y ≡ Less → place_in r c d past x ≡ Greater → place_in r c d past y ≡ Greater
in_past r c d past x y h =
    then_past nat_cmp_total (λ (z : ℕ × Fact). z.0) c (by_value r d past) x y (first_up (nat_cmp x.0 y.0) _ h)
    (λ e. value_past r d past x y (then_second (nat_cmp x.0 y.0) _ h e))

pub in_before : (r c : ℕ) (d : Datum) (past : Option Fact) (x y : ℕ × Fact) → cell_cmp x y ≡ Less → place_in r c d past y ≡ Less → place_in r c d past x ≡ Less
in_before r c d past x y h =
    then_before nat_cmp_total (λ (z : ℕ × Fact). z.0) c (by_value r d past) x y (first_up (nat_cmp x.0 y.0) _ h)
    (λ e. value_before r d past x y (then_second (nat_cmp x.0 y.0) _ h e))

-- ---- at a value in the first column

first_value : (x y : Fact) → slice_cmp datum_cmp x.values y.values ≡ Less → values_cmp (value_in (0, x)) (value_in (0, y)) ≡ Greater → ⊥
first_value x y h g = by x.values y.values h g
  where
    by : (xs ys : List Datum) → slice_cmp datum_cmp xs ys ≡ Less → values_cmp (slice_get xs 0) (slice_get ys 0) ≡ Greater → ⊥
    by [] [] h g = cc
    by [] (y ∷ ys) h g = cc
    by (x ∷ xs) [] h g = cc
    by (x ∷ xs) (y ∷ ys) h g = first_up (datum_cmp x y) _ h g

abbrev by_lead : Datum → Option Fact → Fact → Ordering
by_lead d past u = ordering_then (values_cmp (value_in (0, u)) (Some d)) (place_beyond past u)

pub lead_past : (r : ℕ) (d : Datum) (past : Option Fact) (x y : Fact) → fact_cmp x y ≡ Less → place_lead r d past x ≡ Greater → place_lead r d past y ≡ Greater
lead_past r d past x y h =
    then_past nat_cmp_total (λ (t : Fact). t.relation) r (by_lead d past) x y (first_up (nat_cmp x.relation y.relation) _ h)
    (λ e. then_past (options_total datum_total) (λ (t : Fact). value_in (0, t)) (Some d) (place_beyond past) x y (first_value x y (then_second (nat_cmp x.relation y.relation) _ h e)) (λ _. beyond_past past x y h))

pub lead_before : (r : ℕ) (d : Datum) (past : Option Fact) (x y : Fact) → fact_cmp x y ≡ Less → place_lead r d past y ≡ Less → place_lead r d past x ≡ Less
lead_before r d past x y h =
    then_before nat_cmp_total (λ (t : Fact). t.relation) r (by_lead d past) x y (first_up (nat_cmp x.relation y.relation) _ h)
    (λ e. then_before (options_total datum_total) (λ (t : Fact). value_in (0, t)) (Some d) (place_beyond past) x y (first_value x y (then_second (nat_cmp x.relation y.relation) _ h e)) (λ _. beyond_before past x y h))
