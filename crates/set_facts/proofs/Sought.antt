-- What a binary search of tuples in order tells, and what an edit at the place that it gives does.
use Rattle.std.proofs.Common.{◌≡◌, ◌∙◌, ℕ, zero, suc, ◌+◌, ◌<◌, ◌≤◌, true, false, not, ◌||◌, List, [], ◌∷◌, Bool, ◌&&◌, length, get_or, map, Result, Ok, Err, is_ok, refl, sym, ap, arith, subst}
use Rattle.std.specs.BTreeSet.{insert_key}
use Rattle.std.specs.List.{AllByRecursion, insert, remove}
use Rattle.std.specs.List.Sorted.{IsBinarySearchResult, IsNonDecreasingBy, IsSearchInRange, IsSortedBy, IsStrictlySortedBy}
use Rattle.std.specs.Ordering.{is_lt, ordering_index, ordering_reverse}
use Rattle.std.specs.Prelude.{filter}
use Rattle.std.specs.declared.cmp.Ordering.{Ordering}
use Rattle.std.specs.declared.cmp.Ordering.TheVariants.{Less, Greater}
use Rattle.std.proofs.lemmas.List.Sorted.{searchable_from_sorted}
use Rattle.def_chase.specs.Values.{Fact, fact_cmp, same_fact}
use Rattle.def_chase.specs.Repository.{IsRepository, has}
use Rattle.def_chase.proofs.Bools.{and-true, or_left, or_right}
use Rattle.def_chase.proofs.Members.{above_all}
use Rattle.def_chase.proofs.Order.{fact_total, fact_exact}
use Rattle.def_chase.proofs.Sets.{filter_in_order, has-delete, has-insert, insert_in_order, same_exact, same_itself, same_repository}
use Rattle.base_types.specs.Meanings.{fact_of}
use Rattle.base_types.specs.declared.tuples.Tuple.{Tuple}
use Rattle.set_facts.specs.Places.{StandsAt, IsBetween}
use Rattle.set_facts.proofs.Held.{kept_above}

turned : (s t : Fact) (o : Ordering) → fact_cmp s t ≡ o → fact_cmp t s ≡ ordering_reverse o
turned s t o e = fact_total.antisymm t s ∙ ap ordering_reverse e

-- ---- what the search asks

-- Each tuple is below the next.
rising : (D : List Tuple) → IsRepository (map fact_of D) → (k : ℕ) (d : Tuple) → k + 1 < length D → fact_cmp (fact_of (get_or D k d)) (fact_of (get_or D (k + 1) d)) ≡ Less
unfolding IsStrictlySortedBy
rising [] s k d h = absurd (omega arith)
rising (u ∷ []) s k d h = absurd (omega arith)
rising (u ∷ v ∷ D) s zero d h = s.0.0
rising (u ∷ v ∷ D) s (suc k) d h =
    subst (λ (n : ℕ). fact_cmp (fact_of (get_or (u ∷ v ∷ D) (suc k) d)) (fact_of (get_or (u ∷ v ∷ D) n d)) ≡ Less) {x = suc (k + 1)} {y = suc k + 1} (omega arith)
    (rising (v ∷ D) s.1 k d (omega arith))

in_order : (D : List Tuple) → IsRepository (map fact_of D) → IsSortedBy (λ a b. is_lt (fact_cmp (fact_of a) (fact_of b))) D
in_order D s k d a b = ap is_lt (turned (fact_of (get_or D k d)) (fact_of (get_or D (k + 1) d)) Less (rising D s k d b))

searchable : (D : List Tuple) (t : Tuple) → IsRepository (map fact_of D) → IsNonDecreasingBy (λ y. ordering_index (fact_cmp (fact_of y) (fact_of t))) D
searchable D t s = searchable_from_sorted fact_total fact_of D (fact_of t) (in_order D s)

-- ---- a tuple that stands there

pub there : (D : List Tuple) (t : Tuple) (i : ℕ) → i < length D → StandsAt D t i → has (map fact_of D) (fact_of t) ≡ true
there [] t i h e = absurd (omega arith)
there (u ∷ D) t zero h e =
    or_left (same_fact (fact_of t) (fact_of u)) (has (map fact_of D) (fact_of t))
    (ap (λ v. same_fact (fact_of t) v) (fact_exact (fact_of u) (fact_of t) (e t)) ∙ same_itself (fact_of t))
there (u ∷ D) t (suc i) h e = or_right (same_fact (fact_of t) (fact_of u)) (has (map fact_of D) (fact_of t)) (there D t i (omega arith) e)

pub taken_out : (D : List Tuple) (t : Tuple) (i : ℕ) → IsRepository (map fact_of D) → i < length D → StandsAt D t i → map fact_of (remove D i) ≡ filter (λ s. not (same_fact (fact_of t) s)) (map fact_of D)
unfolding IsStrictlySortedBy
taken_out [] t i s h e = absurd (omega arith)
taken_out (u ∷ D) t zero s h e =
    let same : fact_of u ≡ fact_of t = fact_exact (fact_of u) (fact_of t) (e t) in
    let gone : same_fact (fact_of t) (fact_of u) ≡ true = ap (λ v. same_fact (fact_of t) v) same ∙ same_itself (fact_of t) in
    rw gone (sym (kept_above (fact_of t) (map fact_of D) (subst (λ (v : Fact). AllByRecursion (λ y. fact_cmp v y ≡ Less) (map fact_of D)) same s.0)))
taken_out (u ∷ D) t (suc i) s h e =
    let above : fact_cmp (fact_of u) (fact_of t) ≡ Less = above_all (fact_of u) (fact_of t) (map fact_of D) s.0 (there D t i (omega arith) e) in
    rw (turned (fact_of u) (fact_of t) Less above) (ap (λ l. fact_of u ∷ l) (taken_out D t i s.1 (omega arith) e))

-- ---- a tuple that does not

pub parted : (D : List Tuple) (t : Tuple) (i : ℕ) → IsRepository (map fact_of D) → (IsNonDecreasingBy (λ y. ordering_index (fact_cmp (fact_of y) (fact_of t))) D → IsBetween D t i) → IsBetween D t i
parted D t i s f = f (searchable D t s)

pub put_between : (D : List Tuple) (t : Tuple) (i : ℕ) → i ≤ length D → IsBetween D t i → map fact_of (insert D i t) ≡ insert_key fact_cmp (map fact_of D) (fact_of t)
put_between [] t zero h b = refl
put_between [] t (suc i) h b = absurd (omega arith)
put_between (u ∷ D) t zero h b = rw (turned (fact_of u) (fact_of t) Greater (b.1 0 t (omega arith) (omega arith))) refl
put_between (u ∷ D) t (suc i) h b =
    rw (turned (fact_of u) (fact_of t) Less (b.0 0 t (omega arith) (omega arith)))
    (ap (λ l. fact_of u ∷ l) (put_between D t i (omega arith) (λ k d x y. b.0 (suc k) d (omega arith) (omega arith), λ k d x y. b.1 (suc k) d (omega arith) (omega arith))))

pub absent_between : (D : List Tuple) (t : Tuple) (i : ℕ) → IsBetween D t i → has (map fact_of D) (fact_of t) ≡ false
absent_between [] t i b = refl
absent_between (u ∷ D) t zero b =
    rw (turned (fact_of u) (fact_of t) Greater (b.1 0 t (omega arith) (omega arith)))
    (absent_between D t zero (λ k d x y. absurd (omega arith), λ k d x y. b.1 (suc k) d (omega arith) (omega arith)))
absent_between (u ∷ D) t (suc i) b =
    rw (turned (fact_of u) (fact_of t) Less (b.0 0 t (omega arith) (omega arith)))
    (absent_between D t i (λ k d x y. b.0 (suc k) d (omega arith) (omega arith), λ k d x y. b.1 (suc k) d (omega arith) (omega arith)))

-- ---- writes that change nothing

-- What is there need not be put in.
pub put_there : (D : List Fact) (t : Fact) → IsRepository D → has D t ≡ true → D ≡ insert_key fact_cmp D t
put_there D t s h = same_repository D (insert_key fact_cmp D t) s (insert_in_order D t s) (λ u. by u (same_fact u t) refl ∙ sym (has-insert D t u))
  where
    by : (u : Fact) (b : Bool) → same_fact u t ≡ b → has D u ≡ (b || has D u)
    by u true e = ap (has D) (same_exact u t e) ∙ h
    by u false e = refl

-- What is not there need not be taken out.
pub taken_absent : (D : List Fact) (t : Fact) → IsRepository D → has D t ≡ false → D ≡ filter (λ s. not (same_fact t s)) D
taken_absent D t s h = same_repository D (filter (λ s. not (same_fact t s)) D) s (filter_in_order (λ s. not (same_fact t s)) D s) (λ u. by u (same_fact u t) refl ∙ sym (has-delete D t u))
  where
    by : (u : Fact) (b : Bool) → same_fact u t ≡ b → has D u ≡ (has D u && not b)
    by u true e = let no : has D u ≡ false = ap (has D) (same_exact u t e) ∙ h in no ∙ (λ i. sym no i && false)
    by u false e = sym (and-true (has D u))

-- Whether the search finds a place tells whether the tuple is there.
pub told_there : (D : List Tuple) (t : Tuple) (r : Result ℕ ℕ) → IsRepository (map fact_of D) → IsSearchInRange r (length D) → IsBinarySearchResult (λ y. fact_cmp (fact_of y) (fact_of t)) D r → is_ok r ≡ has (map fact_of D) (fact_of t)
told_there D t (Ok i) s h e = sym (there D t i h e)
told_there D t (Err i) s h f = sym (absent_between D t i (parted D t i s f))
