-- A search among the marked tuples is one among those that an update sees, which are in order.
use Rattle.std.proofs.Common.{◌≡◌, ℕ, subst, ap, refl, sym, ◌∙◌, List, [], ◌∷◌, Bool, true, false, ◌&&◌, cond, find, map, filter, Option, Some, None}
use Rattle.std.specs.List.{AllByRecursion}
use Rattle.std.specs.List.Sorted.{IsStrictlySortedBy}
use Rattle.std.specs.Map.{keys_of}
use Rattle.std.specs.Option.{option_map}
use Rattle.std.specs.Ordering.{on}
use Rattle.std.specs.declared.cmp.Ordering.{Ordering}
use Rattle.std.specs.declared.cmp.Ordering.TheVariants.{Less}
use Rattle.base_types.specs.Candidates.{is_holding}
use Rattle.base_types.specs.Meanings.{fact_of}
use Rattle.base_types.specs.declared.tuples.Tuple.{Tuple}
use Rattle.def_chase.specs.Values.{Datum, Fact, fact_cmp}
use Rattle.def_chase.specs.Queries.{holds_null}
use Rattle.def_chase.specs.Repository.{IsRepository}
use Rattle.def_chase.specs.Cursors.{is_of, is_past, is_beyond, is_datum, has_at, is_scanned}
use Rattle.def_chase.proofs.Bools.{and-true}
use Rattle.base_tree.specs.Few.{Batch, no_item, with_first}
use Rattle.base_tree.specs.Orders.{IsOrdered, is_sought}
use Rattle.set_versions.specs.Cells.{value_in}
use Rattle.set_versions.specs.Marked.{stands, visible}
use Rattle.set_versions.specs.Zones.{Leading, place_beyond, place_lead, place_of}
use Rattle.set_versions.specs.declared.marks.Marks.{Marks}
use Rattle.set_versions.proofs.Placing.{beyond_is, lead_is, zone_is}

-- ---- order

pub below_visible : (n : ℕ) (t : Fact) (es : List (Tuple × Marks)) → AllByRecursion (λ y. fact_cmp t (fact_of y) ≡ Less) (keys_of es) → AllByRecursion (λ y. fact_cmp t y ≡ Less) (visible n es)
below_visible n t [] a = tt
below_visible n t (e ∷ es) a = by (stands n e.1) (below_visible n t es a.1)
  where
    by : (b : Bool) → AllByRecursion (λ y. fact_cmp t y ≡ Less) (visible n es) → AllByRecursion (λ y. fact_cmp t y ≡ Less) (map (λ f. fact_of f.0) (cond b (e ∷ filter (λ f. stands n f.1) es) (filter (λ f. stands n f.1) es)))
    by true h = (a.0, h)
    by false h = h

pub visible_in_order : (n : ℕ) (es : List (Tuple × Marks)) → IsOrdered (on fact_of fact_cmp) es → IsRepository (visible n es)
unfolding IsStrictlySortedBy
visible_in_order n [] s = tt
visible_in_order n (e ∷ es) s = by (stands n e.1) (visible_in_order n es s.1)
  where
    by : (b : Bool) → IsRepository (visible n es) → IsStrictlySortedBy fact_cmp (map (λ f. fact_of f.0) (cond b (e ∷ filter (λ f. stands n f.1) es) (filter (λ f. stands n f.1) es)))
    by true h = (below_visible n (fact_of e.0) es s.0, h)
    by false h = h

-- ---- searches

module _ (n : ℕ) (q : Fact → Bool) where
  find_visible : (es : List (Tuple × Marks)) → find q (visible n es) ≡ option_map (λ (e : Tuple × Marks). fact_of e.0) (find (λ e. stands n e.1 && q (fact_of e.0)) es)
  find_visible [] = refl
  find_visible (e ∷ es) = by (stands n e.1) (q (fact_of e.0)) refl (find_visible es)
    where
      by : (a b : Bool) → q (fact_of e.0) ≡ b → find q (visible n es) ≡ option_map (λ (f : Tuple × Marks). fact_of f.0) (find (λ f. stands n f.1 && q (fact_of f.0)) es)
          → find q (map (λ f. fact_of f.0) (cond a (e ∷ filter (λ f. stands n f.1) es) (filter (λ f. stands n f.1) es)))
          ≡ option_map (λ (f : Tuple × Marks). fact_of f.0) (cond (a && b) (Some e) (find (λ f. stands n f.1 && q (fact_of f.0)) es))
      by true true k h = rw k refl
      by true false k h = rw k h
      by false b k h = h

pub find_same : {X : Type 0} (p q : X → Bool) → ((x : X) → p x ≡ q x) → (xs : List X) → find p xs ≡ find q xs
find_same p q h [] = refl
find_same p q h (x ∷ xs) = rw (h x) (ap (λ o. cond (q x) (Some x) o) (find_same p q h xs))

-- What was found among the marked tuples, by place and test, is what is found by q among those that are seen.
pub seen_by : (n : ℕ) (q : Fact → Bool) (place : Tuple → Ordering) (passes : Tuple × Marks → Bool) → ((e : Tuple × Marks) → is_sought place passes e ≡ (stands n e.1 && q (fact_of e.0)))
    → (es : List (Tuple × Marks)) (found : Option (Tuple × Marks)) (tuple : Option Tuple) → found ≡ find (is_sought place passes) es → tuple ≡ option_map (λ e. e.0) found → option_map fact_of tuple ≡ find q (visible n es)
seen_by n q place passes same es found tuple f t =
    ap (option_map fact_of) t ∙ both found ∙ ap (option_map (λ (e : Tuple × Marks). fact_of e.0)) (f ∙ find_same (is_sought place passes) (λ e. stands n e.1 && q (fact_of e.0)) same es) ∙ sym (find_visible n q es)
  where
    both : (o : Option (Tuple × Marks)) → option_map fact_of (option_map (λ e. e.0) o) ≡ option_map (λ (e : Tuple × Marks). fact_of e.0) o
    both None = refl
    both (Some e) = refl

-- ---- the tests

swap : (a b : Bool) → (a && b) ≡ (b && a)
swap true true = refl
swap true false = refl
swap false true = refl
swap false false = refl

pub beyond_same : (n : ℕ) (past : Option Fact) (e : Tuple × Marks) → is_sought (λ k. place_beyond past (fact_of k)) (λ f. stands n f.1) e ≡ (stands n e.1 && is_beyond past (fact_of e.0))
beyond_same n past e = ap (λ b. b && stands n e.1) (beyond_is past (fact_of e.0)) ∙ swap (is_beyond past (fact_of e.0)) (stands n e.1)

pub holding_same : (n u k : ℕ) (past : Option Fact) (e : Tuple × Marks) → is_sought (λ x. place_beyond past (fact_of x)) (λ f. stands n f.1 && holds_null u k (fact_of f.0)) e ≡ (stands n e.1 && is_holding u k past (fact_of e.0))
holding_same n u k past e = ap (λ b. b && (stands n e.1 && holds_null u k (fact_of e.0))) (beyond_is past (fact_of e.0)) ∙ turn (is_beyond past (fact_of e.0)) (stands n e.1) (holds_null u k (fact_of e.0))
  where
    turn : (a b x : Bool) → (a && (b && x)) ≡ (b && (a && x))
    turn true true x = refl
    turn true false x = refl
    turn false true x = refl
    turn false false x = refl

pub zone_same : (n r : ℕ) (past : Option Fact) (e : Tuple × Marks) → is_sought (λ k. place_of r past (fact_of k)) (λ f. stands n f.1) e ≡ (stands n e.1 && (is_of r (fact_of e.0) && is_beyond past (fact_of e.0)))
zone_same n r past e = ap (λ b. b && stands n e.1) (zone_is r past (fact_of e.0)) ∙ swap (is_of r (fact_of e.0) && is_beyond past (fact_of e.0)) (stands n e.1)

pub first_same : (n r : ℕ) (e : Tuple × Marks) → is_sought (λ k. place_of r None (fact_of k)) (λ f. stands n f.1) e ≡ (stands n e.1 && is_of r (fact_of e.0))
first_same n r e = zone_same n r None e ∙ ap (λ b. stands n e.1 && b) (and-true (is_of r (fact_of e.0)))

pub after_same : (n : ℕ) (t : Fact) (e : Tuple × Marks) → is_sought (λ k. place_of t.relation (Some t) (fact_of k)) (λ f. stands n f.1) e ≡ (stands n e.1 && is_past t (fact_of e.0))
after_same n t e = zone_same n t.relation (Some t) e

pub lead_same : (n r : ℕ) (d : Datum) (past : Option Fact) (e : Tuple × Marks) → is_sought (λ k. place_lead r d past (fact_of k)) (λ f. stands n f.1) e ≡ (stands n e.1 && is_scanned r 0 d past (fact_of e.0))
lead_same n r d past e =
    let u = fact_of e.0 in
    ap (λ b. b && stands n e.1) (lead_is r d past u ∙ ap (λ b. is_of r u && b) (swap (is_datum d (value_in (0, u))) (is_beyond past u))) ∙ swap (is_scanned r 0 d past u) (stands n e.1)

-- The value in the column asked of each tuple of the relation.
pub further_same : (n r c : ℕ) (d : Datum) (past : Option Fact) (e : Tuple × Marks)
    → is_sought (λ k. place_of r past (fact_of k)) (λ f. stands n f.1 && has_at c d (fact_of f.0)) e ≡ (stands n e.1 && is_scanned r c d past (fact_of e.0))
further_same n r c d past e = ap (λ b. b && (stands n e.1 && has_at c d (fact_of e.0))) (zone_is r past (fact_of e.0)) ∙ turned (is_of r (fact_of e.0)) (is_beyond past (fact_of e.0)) (stands n e.1) (has_at c d (fact_of e.0))
  where
    turned : (a b s h : Bool) → ((a && b) && (s && h)) ≡ (s && (a && (b && h)))
    turned true true s h = refl
    turned true false s h = swap false s
    turned false b s h = swap false s

-- The same of what is kept.
pub seen_in_order : (n : ℕ) {inside es : List (Tuple × Marks)} → inside ≡ es → IsOrdered (on fact_of fact_cmp) inside → IsRepository (visible n es)
seen_in_order n {inside} {es} e s = subst (λ d. IsRepository (visible n d)) e (visible_in_order n inside s)

-- Before all keys everything is reached.
pub all_reached : {X : Type 0} (xs : List X) → filter (λ _. true) xs ≡ xs
all_reached [] = refl
all_reached (x ∷ xs) = ap (λ t. x ∷ t) (all_reached xs)

-- ---- all that is shown

module _ (n : ℕ) (q : Fact → Bool) where
  filter_visible : (es : List (Tuple × Marks)) → filter q (visible n es) ≡ map (λ (e : Tuple × Marks). fact_of e.0) (filter (λ e. stands n e.1 && q (fact_of e.0)) es)
  filter_visible [] = refl
  filter_visible (e ∷ es) = by (stands n e.1) (q (fact_of e.0)) refl (filter_visible es)
    where
      by : (a b : Bool) → q (fact_of e.0) ≡ b → filter q (visible n es) ≡ map (λ (f : Tuple × Marks). fact_of f.0) (filter (λ f. stands n f.1 && q (fact_of f.0)) es)
          → filter q (map (λ f. fact_of f.0) (cond a (e ∷ filter (λ f. stands n f.1) es) (filter (λ f. stands n f.1) es)))
          ≡ map (λ (f : Tuple × Marks). fact_of f.0) (cond (a && b) (e ∷ filter (λ f. stands n f.1 && q (fact_of f.0)) es) (filter (λ f. stands n f.1 && q (fact_of f.0)) es))
      by true true k h = rw k (ap (λ l. fact_of e.0 ∷ l) h)
      by true false k h = rw k h
      by false b k h = h

filter_same : {X : Type 0} (p q : X → Bool) → ((x : X) → p x ≡ q x) → (xs : List X) → filter p xs ≡ filter q xs
filter_same p q h [] = refl
filter_same p q h (x ∷ xs) = rw (h x) (ap (λ l. cond (q x) (x ∷ l) l) (filter_same p q h xs))

-- The tuples of all that is sought, by place and test, are all that pass q among those that are seen.
pub shown_by : (n : ℕ) (q : Fact → Bool) (place : Tuple → Ordering) (passes : Tuple × Marks → Bool) → ((e : Tuple × Marks) → is_sought place passes e ≡ (stands n e.1 && q (fact_of e.0)))
    → (es : List (Tuple × Marks)) → map fact_of (map (λ (e : Tuple × Marks). e.0) (filter (is_sought place passes) es)) ≡ filter q (visible n es)
shown_by n q place passes same es =
    both (filter (is_sought place passes) es) ∙ ap (map (λ (e : Tuple × Marks). fact_of e.0)) (filter_same (is_sought place passes) (λ e. stands n e.1 && q (fact_of e.0)) same es) ∙ sym (filter_visible n q es)
  where
    both : (xs : List (Tuple × Marks)) → map fact_of (map (λ (e : Tuple × Marks). e.0) xs) ≡ map (λ (e : Tuple × Marks). fact_of e.0) xs
    both [] = refl
    both (x ∷ xs) = ap (λ l. fact_of x.0 ∷ l) (both xs)

-- What is found, and what is shown, by a search for a first value, where another says the same of it.
pub found_by_lead : (rows : List (Tuple × Marks)) {s q : Leading} {o : Option (Tuple × Marks)} → s ≡ q → o ≡ find (is_sought (λ k. place_lead s.relation s.value s.past (fact_of k)) (λ f. stands s.number f.1)) rows
    → o ≡ find (is_sought (λ k. place_lead q.relation q.value q.past (fact_of k)) (λ f. stands q.number f.1)) rows
found_by_lead rows e f = f ∙ ap (λ (q : Leading). find (is_sought (λ k. place_lead q.relation q.value q.past (fact_of k)) (λ f. stands q.number f.1)) rows) e

pub shown_by_lead : (rows : List (Tuple × Marks)) {s q : Leading} {few : Batch Tuple} → s ≡ q
    → few ≡ with_first no_item (map (λ (e : Tuple × Marks). e.0) (filter (is_sought (λ k. place_lead s.relation s.value s.past (fact_of k)) (λ f. stands s.number f.1)) rows))
    → few ≡ with_first no_item (map (λ (e : Tuple × Marks). e.0) (filter (is_sought (λ k. place_lead q.relation q.value q.past (fact_of k)) (λ f. stands q.number f.1)) rows))
shown_by_lead rows e f =
    f ∙ ap (λ (q : Leading). with_first no_item (map (λ (e : Tuple × Marks). e.0) (filter (is_sought (λ k. place_lead q.relation q.value q.past (fact_of k)) (λ f. stands q.number f.1)) rows))) e
