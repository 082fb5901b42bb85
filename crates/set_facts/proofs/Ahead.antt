-- A place in a list of tuples in order, and what is found from there on.
use Rattle.std.proofs.Common.{◌≡◌, ◌∙◌, ℕ, zero, suc, ◌-◌, ◌<◌, ◌≤◌, true, false, List, [], ◌∷◌, Bool, ◌&&◌, cond, length, drop, take, get_or, map, refl, sym, ap, arith, subst, Option, Some, None}
use Rattle.std.specs.List.{AllByRecursion, list_any}
use Rattle.std.specs.List.Sorted.{IsStrictlySortedBy}
use Rattle.std.specs.Ordering.{is_lt, is_le, ordering_reverse}
use Rattle.std.specs.Prelude.{filter, find, is_some}
use Rattle.std.specs.Cmp.{tied_itself}
use Rattle.std.specs.declared.cmp.Ordering.{Ordering}
use Rattle.std.specs.declared.cmp.Ordering.TheVariants.{Less, Equal, Greater}
use Rattle.std.proofs.Math.Seq.{take-length}
use Rattle.std.proofs.lemmas.List.{length-drop}
use Rattle.std.proofs.lemmas.Bool.{and_parts, ne_eqb}
use Rattle.def_chase.specs.Values.{Datum, Fact, fact_cmp}
use Rattle.def_chase.specs.Repository.{IsRepository}
use Rattle.def_chase.specs.Cursors.{is_of, is_beyond, has_at, is_scanned}
use Rattle.def_chase.proofs.Bools.{and-true, differ}
use Rattle.def_chase.proofs.Members.{above_all}
use Rattle.def_chase.proofs.Order.{fact_total, fact_exact}
use Rattle.def_chase.proofs.Ranges.{least, from_least, from_least_of, relation_le}
use Rattle.def_chase.proofs.Searches.{find_filter, found_any}
use Rattle.def_chase.proofs.Sets.{filter_in_order}
use Rattle.base_types.specs.Meanings.{fact_of}
use Rattle.base_types.specs.declared.tuples.Tuple.{Tuple}
use Rattle.set_facts.specs.Courses.{is_ahead}
use Rattle.set_facts.specs.Places.{StandsAt, IsBetween, HasAllThat, is_from}
use Rattle.set_facts.proofs.Sought.{there}

turned : (s t : Fact) (o : Ordering) → fact_cmp s t ≡ o → fact_cmp t s ≡ ordering_reverse o
turned s t o e = fact_total.antisymm t s ∙ ap ordering_reverse e

-- ---- from a place on

-- What is above a tuple is not below it.
kept_from : (t : Fact) (D : List Fact) → AllByRecursion (λ y. fact_cmp t y ≡ Less) D → D ≡ filter (is_from t) D
kept_from t [] a = refl
kept_from t (u ∷ D) a = rw a.0 (ap (λ l. u ∷ l) (kept_from t D a.1))

from_itself : (t : Fact) → is_from t t ≡ true
from_itself t = by (fact_cmp t t) refl
  where
    by : (o : Ordering) → fact_cmp t t ≡ o → is_le o ≡ true
    by Less e = refl
    by Equal e = refl
    by Greater e = differ (sym (ap is_le e) ∙ ap is_le (turned t t Greater e))

pub from_there : (D : List Tuple) (t : Tuple) (i : ℕ) → IsRepository (map fact_of D) → i < length D → StandsAt D t i → map fact_of (drop i D) ≡ filter (is_from (fact_of t)) (map fact_of D)
unfolding IsStrictlySortedBy
from_there [] t i s h e = absurd (omega arith)
from_there (u ∷ D) t zero s h e =
    let same : fact_of u ≡ fact_of t = fact_exact (fact_of u) (fact_of t) (e t) in
    let kept : is_from (fact_of t) (fact_of u) ≡ true = ap (is_from (fact_of t)) same ∙ from_itself (fact_of t) in
    rw kept (ap (λ l. fact_of u ∷ l) (kept_from (fact_of t) (map fact_of D) (subst (λ (v : Fact). AllByRecursion (λ y. fact_cmp v y ≡ Less) (map fact_of D)) same s.0)))
from_there (u ∷ D) t (suc i) s h e =
    let above : fact_cmp (fact_of u) (fact_of t) ≡ Less = above_all (fact_of u) (fact_of t) (map fact_of D) s.0 (there D t i (omega arith) e) in
    rw (turned (fact_of u) (fact_of t) Less above) (from_there D t i s.1 (omega arith) e)

pub from_between : (D : List Tuple) (t : Tuple) (i : ℕ) → i ≤ length D → IsBetween D t i → map fact_of (drop i D) ≡ filter (is_from (fact_of t)) (map fact_of D)
from_between [] t zero h b = refl
from_between [] t (suc i) h b = absurd (omega arith)
from_between (u ∷ D) t zero h b =
    rw (turned (fact_of u) (fact_of t) Greater (b.1 0 t (omega arith) (omega arith)))
    (ap (λ l. fact_of u ∷ l) (from_between D t zero (omega arith) (λ k d x y. absurd (omega arith), λ k d x y. b.1 (suc k) d (omega arith) (omega arith))))
from_between (u ∷ D) t (suc i) h b =
    rw (turned (fact_of u) (fact_of t) Less (b.0 0 t (omega arith) (omega arith)))
    (from_between D t i (omega arith) (λ k d x y. b.0 (suc k) d (omega arith) (omega arith), λ k d x y. b.1 (suc k) d (omega arith) (omega arith)))

-- ---- above a tuple

-- What is above a tuple is beyond it.
kept_above_it : (t : Fact) (D : List Fact) → AllByRecursion (λ y. fact_cmp t y ≡ Less) D → D ≡ filter (is_beyond (Some t)) D
kept_above_it t [] a = refl
kept_above_it t (u ∷ D) a = rw a.0 (ap (λ l. u ∷ l) (kept_above_it t D a.1))

not_above_itself : (t : Fact) → is_beyond (Some t) t ≡ false
not_above_itself t = ap is_lt (tied_itself fact_total t)

pub above_there : (D : List Tuple) (t : Tuple) (i j : ℕ) → j ≡ suc i → IsRepository (map fact_of D) → i < length D → StandsAt D t i → map fact_of (drop j D) ≡ filter (is_beyond (Some (fact_of t))) (map fact_of D)
unfolding IsStrictlySortedBy
above_there [] t i j next s h e = absurd (omega arith)
above_there (u ∷ D) t zero j next s h e =
    let same : fact_of u ≡ fact_of t = fact_exact (fact_of u) (fact_of t) (e t) in
    let left : is_beyond (Some (fact_of t)) (fact_of u) ≡ false = ap (is_beyond (Some (fact_of t))) same ∙ not_above_itself (fact_of t) in
    ap (λ (k : ℕ). map fact_of (drop k (u ∷ D))) next
    ∙ rw left (kept_above_it (fact_of t) (map fact_of D) (subst (λ (v : Fact). AllByRecursion (λ y. fact_cmp v y ≡ Less) (map fact_of D)) same s.0))
above_there (u ∷ D) t (suc i) j next s h e =
    let below : fact_cmp (fact_of u) (fact_of t) ≡ Less = above_all (fact_of u) (fact_of t) (map fact_of D) s.0 (there D t i (omega arith) e) in
    ap (λ (k : ℕ). map fact_of (drop k (u ∷ D))) next
    ∙ rw (turned (fact_of u) (fact_of t) Less below) (above_there D t i (suc i) refl s.1 (omega arith) e)

pub above_between : (D : List Tuple) (t : Tuple) (i : ℕ) → i ≤ length D → IsBetween D t i → map fact_of (drop i D) ≡ filter (is_beyond (Some (fact_of t))) (map fact_of D)
above_between [] t zero h b = refl
above_between [] t (suc i) h b = absurd (omega arith)
above_between (u ∷ D) t zero h b =
    rw (turned (fact_of u) (fact_of t) Greater (b.1 0 t (omega arith) (omega arith)))
    (ap (λ l. fact_of u ∷ l) (above_between D t zero (omega arith) (λ k d x y. absurd (omega arith), λ k d x y. b.1 (suc k) d (omega arith) (omega arith))))
above_between (u ∷ D) t (suc i) h b =
    rw (turned (fact_of u) (fact_of t) Less (b.0 0 t (omega arith) (omega arith)))
    (above_between D t i (omega arith) (λ k d x y. b.0 (suc k) d (omega arith) (omega arith), λ k d x y. b.1 (suc k) d (omega arith) (omega arith)))

-- The rest of a list, as a slice from a place on gives it.
pub slice_from : {A : Type 0} (D : List A) (i : ℕ) → take (length D - i) (drop i D) ≡ drop i D
slice_from D i = ap (λ n. take n (drop i D)) (sym (length-drop i D)) ∙ take-length (drop i D)

-- ---- what is found there

pub has_all_that : (q : Fact → Bool) (t : Fact) (D rest : List Fact) → ((u : Fact) → q u ≡ true → is_from t u ≡ true) → rest ≡ filter (is_from t) D → HasAllThat q D rest
has_all_that q t D rest within e p h = ap (find p) e ∙ find_filter p (is_from t) (λ u g. within u (h u g)) D

pub beyond_from : (t u : Fact) → is_beyond (Some t) u ≡ true → is_from t u ≡ true
beyond_from t u = by (fact_cmp t u)
  where
    by : (o : Ordering) → is_lt o ≡ true → is_le o ≡ true
    by Less e = refl
    by Equal e = refl
    by Greater e = differ e

pub ahead_from : (r : ℕ) (t u : Fact) → is_ahead r (Some t) u ≡ true → is_from t u ≡ true
ahead_from r t u e = beyond_from t u (and_parts (is_of r u) (is_beyond (Some t) u) e).1

pub relation_from : (r : ℕ) (u : Fact) → is_ahead r None u ≡ true → is_from (least r) u ≡ true
relation_from r u e =
    let of : is_of r u ≡ true = (and_parts (is_of r u) true e).0 in
    sym (and-true (is_from (least r) u)) ∙ sym (ap (λ b. b && from_least r u) of) ∙ from_least_of r u ∙ of

pub rest_in_order : (t : Fact) (D rest : List Fact) → IsRepository D → rest ≡ filter (is_from t) D → IsRepository rest
rest_in_order t D rest s e = subst IsRepository (sym e) (filter_in_order (is_from t) D s)

-- After a tuple of a greater relation nothing of the relation is found.
none_after : (p : Fact → Bool) (r : ℕ) (u : Fact) → ((v : Fact) → p v ≡ true → is_of r v ≡ true) → r < u.relation → (D : List Fact) → AllByRecursion (λ v. fact_cmp u v ≡ Less) D → find p D ≡ None
none_after p r u of h [] a = refl
none_after p r u of h (v ∷ D) a = by (p v) refl (none_after p r u of h D a.1)
  where
    greater : u.relation ≤ v.relation
    greater = relation_le u v (ap is_le a.0)

    by : (b : Bool) → p v ≡ b → find p D ≡ None → cond b (Some v) (find p D) ≡ None
    by true e rest = differ (sym (ne_eqb v.relation r (λ f. omega (arith, f, h, greater))) ∙ of v e)
    by false e rest = rest

pub none_from : (p : Fact → Bool) (r : ℕ) (u : Fact) (D : List Fact) → ((v : Fact) → p v ≡ true → is_of r v ≡ true) → r < u.relation → IsRepository (u ∷ D) → find p (u ∷ D) ≡ None
unfolding IsStrictlySortedBy
none_from p r u D of h s = by (p u) refl
  where
    by : (b : Bool) → p u ≡ b → cond b (Some u) (find p D) ≡ None
    by true e = differ (sym (ne_eqb u.relation r (λ f. omega (arith, f, h))) ∙ of u e)
    by false e = none_after p r u of h D s.0

-- So from the place of such a tuple on.
pub none_at : (p : Fact → Bool) (r : ℕ) (E : List Tuple) (i : ℕ) (u : Tuple) → ((v : Fact) → p v ≡ true → is_of r v ≡ true) → r < u.relation → IsRepository (map fact_of E) → i < length E → u ≡ get_or E i u → find p (map fact_of (drop i E)) ≡ None
unfolding IsStrictlySortedBy
none_at p r [] i u of h s b e = absurd (omega arith)
none_at p r (v ∷ E) zero u of h s b e = none_from p r (fact_of v) (map fact_of E) of (subst (λ (t : Tuple). r < t.relation) e h) s
none_at p r (v ∷ E) (suc i) u of h s b e = none_at p r E i u of h s.1 (omega arith) e

pub scanned_ahead : (r c : ℕ) (d : Datum) (past : Option Fact) (u : Fact) → is_scanned r c d past u ≡ true → is_ahead r past u ≡ true
scanned_ahead r c d past u e = by (is_of r u) (is_beyond past u) (has_at c d u) e
  where
    by : (a b x : Bool) → (a && (b && x)) ≡ true → (a && b) ≡ true
    by true true x e = refl
    by true false x e = e
    by false b x e = e

-- Where the rest has none the set has none.
pub lacks_all : (p : Fact → Bool) (r : ℕ) (D rest : List Fact) → ((u : Fact) → p u ≡ true → is_of r u ≡ true) → HasAllThat (is_ahead r None) D rest → find p rest ≡ None → list_any p D ≡ false
lacks_all p r D rest of all e = sym (found_any p D) ∙ ap is_some (sym (all p (λ u h. and-true (is_of r u) ∙ of u h)) ∙ e)
