-- The values that an update writes come from the repository below it and from its own fresh nulls.
use Rattle.std.specs.Prelude.{◌==◌, nat_lt, slice_get, pos}
use Rattle.std.proofs.Common.{◌≡◌, ℕ, zero, suc, ◌+◌, ◌≤◌, ◌<◌, ap, refl, sym, ◌∙◌, subst, List, [], ◌∷◌, map, Bool, true, false, not, ◌||◌, ◌&&◌, Some, arith}
use Rattle.std.specs.List.{list_any, list_all}
use Rattle.std.proofs.lemmas.Bool.{and_parts, eq-eqb, ltb-true, lt-ltb, le-ltb}
use Rattle.def_chase.specs.Values.{Datum, Number, Text, Unknown, Fact, same_datum}
use Rattle.def_chase.specs.Repository.{Change, Insert, Delete}
use Rattle.def_chase.specs.Mappings.{Slot, Var, Const, Pattern, Rule, value_under, listed}
use Rattle.def_chase.specs.Specific.{is_constant}
use Rattle.def_chase.specs.Updates.{Operation}
use Rattle.def_chase.specs.Laws.{is_no_null, has_no_null, HasNoNull, HaveNoNulls}
use Rattle.def_chase.proofs.Bools.{both, none_some, some_same, or_left, or_right}
use Rattle.def_chase.proofs.Learning.{same_datum_itself}
use Rattle.def_chase.proofs.Searches.{all_at}
use Rattle.def_steps.specs.Origins.{stands_in, is_drawn, comes_from, written, NullsComeFrom}
use Rattle.def_steps.proofs.Passing.{all_weaker, all_mapped, index_passes}
use Rattle.def_steps.proofs.Made.{Closed, write_passes}
use Rattle.def_steps.proofs.MadeRuns.{reached_passing}

module _ (D : List Fact) (u a : ℕ) where
  not_below : (k n : ℕ) → n ≤ k → not (nat_lt k n) ≡ true
  not_below k n h = ap not (le-ltb k n h)

  drawn_later : (k j : ℕ) (d : Datum) → is_drawn u a k d ≡ true → is_drawn u a (k + j) d ≡ true
  drawn_later k j (Number i) h = h
  drawn_later k j (Text w) h = h
  drawn_later k j (Unknown n) h =
      let x = and_parts (n.update == u) ((n.attempt == a) && (nat_lt 0 n.place && not (nat_lt k n.place))) h in
      let y = and_parts (n.attempt == a) (nat_lt 0 n.place && not (nat_lt k n.place)) x.1 in
      let z = and_parts (nat_lt 0 n.place) (not (nat_lt k n.place)) y.1 in
      both (n.update == u) _ x.0 (both (n.attempt == a) _ y.0 (both (nat_lt 0 n.place) _ z.0 (by (nat_lt (k + j) n.place) refl z.1)))
    where
      by : (b : Bool) → nat_lt (k + j) n.place ≡ b → not (nat_lt k n.place) ≡ true → not b ≡ true
      by false e f = refl
      by true e f =
          let l : k + j < n.place = ltb-true (k + j) n.place e in
          let below : nat_lt k n.place ≡ true = lt-ltb k n.place (omega arith) in
          sym (ap not below) ∙ f

  comes_later : (k j : ℕ) (d : Datum) → comes_from D u a k d ≡ true → comes_from D u a (k + j) d ≡ true
  comes_later k j d h = by (is_constant d) (stands_in D d) (is_drawn u a k d) (is_drawn u a (k + j) d) (drawn_later k j d) h
    where
      by : (x y z w : Bool) → (z ≡ true → w ≡ true) → (x || (y || z)) ≡ true → (x || (y || w)) ≡ true
      by true y z w f g = refl
      by false true z w f g = refl
      by false false z w f g = f g

  drawn_fresh : (k j i : ℕ) → 1 ≤ i → i ≤ j → comes_from D u a (k + j) (Unknown record { update = u; attempt = a; place = k + i }) ≡ true
  drawn_fresh k j i h l =
      or_right (stands_in D (Unknown record { update = u; attempt = a; place = k + i })) _
      (both (u == u) _ (eq-eqb u u refl) (both (a == a) _ (eq-eqb a a refl) (both (nat_lt 0 (k + i)) _ (lt-ltb 0 (k + i) (omega arith)) (not_below (k + j) (k + i) (omega arith)))))

  constant_comes : (k : ℕ) (d : Datum) → is_constant d ≡ true → comes_from D u a k d ≡ true
  constant_comes k d h = or_left (is_constant d) _ h

  terms_come : (k : ℕ) (ds : List Datum) → list_all (comes_from D u a k) ds ≡ true → (ts : List Slot) → list_all is_no_null ts ≡ true → list_all (comes_from D u a k) (map (value_under (listed ds)) ts) ≡ true
  terms_come k ds h [] e = refl
  terms_come k ds h (Var v ∷ ts) e = both _ _ (index_passes (comes_from D u a k) (Number (pos 0)) ds v h refl) (terms_come k ds h ts e)
  terms_come k ds h (Const d ∷ ts) e = let x = and_parts (is_constant d) (list_all is_no_null ts) e in both _ _ (constant_comes k d x.0) (terms_come k ds h ts x.1)

  right_at : (m : Rule) (i : ℕ) (b : Pattern) → HasNoNull m → slice_get m.right i ≡ Some b → list_all is_no_null b.terms ≡ true
  right_at m i b h e = at m.right i (and_parts (list_all has_no_null m.left) (list_all has_no_null m.right) h).1 e
    where
      at : (bs : List Pattern) (i : ℕ) → list_all has_no_null bs ≡ true → slice_get bs i ≡ Some b → list_all is_no_null b.terms ≡ true
      at [] i x f = absurd (none_some b f)
      at (y ∷ bs) zero x f = subst (λ (z : Pattern). list_all is_no_null z.terms ≡ true) (some_same y b f) (and_parts (has_no_null y) (list_all has_no_null bs) x).0
      at (y ∷ bs) (suc i) x f = at bs i (and_parts (has_no_null y) (list_all has_no_null bs) x).1 f

  all_come : (k : ℕ) (f : Datum → Datum) → ((d : Datum) → comes_from D u a k (f d) ≡ true) → (ds : List Datum) → list_all (comes_from D u a k) (map f ds) ≡ true
  all_come k f h [] = refl
  all_come k f h (d ∷ ds) = both _ _ (h d) (all_come k f h ds)

  pub null_tests : (ms : List Rule) (op : Operation) → HaveNoNulls ms → Closed ms op u a (comes_from D u a) (λ k t. list_all (comes_from D u a k) t.values)
  null_tests ms op plain =
      record {
        constants = λ k d e. constant_comes k d e;
        later = comes_later;
        fresh = drawn_fresh;
        values = λ k t e. e;
        tuples_later = λ k j t e. all_weaker (comes_from D u a k) (comes_from D u a (k + j)) (λ d x. comes_later k j d x) t.values e;
        substituted = λ k f c h t e. all_mapped (comes_from D u a k) (comes_from D u a k) f h t.values e;
        generated = λ k n i m b e f ds h. terms_come k ds h b.terms (right_at m i b (all_at HasNoNull ms n m plain e) f);
        nowhere = λ k. refl;
        added = λ t e k f h. all_come k f h t.values;
        enacted = λ n e k. refl;
      }

-- ---- what stands in D

each_stands : (ds : List Datum) → list_all (λ d. list_any (same_datum d) ds) ds ≡ true
each_stands [] = refl
each_stands (d ∷ ds) =
    both _ _ (or_left (same_datum d d) _ (same_datum_itself d))
    (all_weaker (λ x. list_any (same_datum x) ds) (λ x. list_any (same_datum x) (d ∷ ds)) (λ x h. or_right (same_datum x d) _ h) ds (each_stands ds))

all_stand : (D : List Fact) → list_all (λ t. list_all (stands_in D) t.values) D ≡ true
all_stand [] = refl
all_stand (t ∷ D) =
    both _ _ (all_weaker (λ d. list_any (same_datum d) t.values) (stands_in (t ∷ D)) (λ d h. or_left (list_any (same_datum d) t.values) _ h) t.values (each_stands t.values))
    (all_weaker (λ s. list_all (stands_in D) s.values) (λ s. list_all (stands_in (t ∷ D)) s.values)
    (λ s h. all_weaker (stands_in D) (stands_in (t ∷ D)) (λ d e. or_right (list_any (same_datum d) t.values) _ e) s.values h) D (all_stand D))

base_comes : (D : List Fact) (u a : ℕ) → list_all (λ t. list_all (comes_from D u a 0) t.values) D ≡ true
base_comes D u a =
    all_weaker (λ t. list_all (stands_in D) t.values) (λ t. list_all (comes_from D u a 0) t.values)
    (λ t h. all_weaker (stands_in D) (comes_from D u a 0) (λ d e. or_right (is_constant d) _ (or_left (stands_in D d) _ e)) t.values h) D (all_stand D)

change_comes : (D : List Fact) (u a k : ℕ) (w : Change) → write_passes (comes_from D u a) (λ k t. list_all (comes_from D u a k) t.values) k w ≡ true → list_all (comes_from D u a k) (written w).values ≡ true
change_comes D u a k (Insert t) h = h
change_comes D u a k (Delete t) h = h

pub nulls_come_from : NullsComeFrom
nulls_come_from scope ms B D answers u a op P log plain r =
    let s = reached_passing scope ms B D answers u a op (comes_from D u a) (λ k t. list_all (comes_from D u a k) t.values) (null_tests D u a ms op plain) (base_comes D u a) r in
    all_weaker (write_passes (comes_from D u a) (λ k t. list_all (comes_from D u a k) t.values) P.nulls) (λ w. list_all (comes_from D u a P.nulls) (written w).values) (λ w h. change_comes D u a P.nulls w h) P.own s.writes
