-- The ordered set of tuples that the program keeps, and the repository that it means, step by step.
use Rattle.std.proofs.Common.{◌≡◌, ap, refl, sym, ◌∙◌, subst, List, [], ◌∷◌, map, Bool, true, false, not, ◌||◌, cond}
use Rattle.std.specs.BTreeSet.{insert_key}
use Rattle.std.specs.List.{list_any, AllByRecursion}
use Rattle.std.specs.List.Sorted.{IsStrictlySortedBy}
use Rattle.std.specs.Ordering.{is_eq, match_ordering, on}
use Rattle.std.specs.Prelude.{filter}
use Rattle.std.specs.Set.{remove_key}
use Rattle.std.specs.declared.cmp.Ordering.{Ordering}
use Rattle.std.specs.declared.cmp.Ordering.TheVariants.{Less, Equal, Greater}
use Rattle.def_chase.specs.Values.{Fact, fact_cmp, same_fact}
use Rattle.def_chase.specs.Repository.{IsRepository, has}
use Rattle.def_chase.proofs.Sets.{same_exact}
use Rattle.base_types.specs.Meanings.{fact_of}
use Rattle.base_types.specs.declared.tuples.Tuple.{Tuple}

-- The order of tuples, by what they mean.
abbrev pub tuple_cmp : Tuple → Tuple → Ordering
tuple_cmp = on fact_of fact_cmp

pub contains_mapped : (t : Tuple) (ks : List Tuple) → list_any (λ k. is_eq (tuple_cmp t k)) ks ≡ has (map fact_of ks) (fact_of t)
contains_mapped t [] = refl
contains_mapped t (k ∷ ks) = ap (λ b. same_fact (fact_of t) (fact_of k) || b) (contains_mapped t ks)

pub insert_mapped : (t : Tuple) (ks : List Tuple) → map fact_of (insert_key tuple_cmp ks t) ≡ insert_key fact_cmp (map fact_of ks) (fact_of t)
insert_mapped t [] = refl
insert_mapped t (k ∷ ks) = by (tuple_cmp t k) (insert_mapped t ks)
  where
    by : (o : Ordering) → map fact_of (insert_key tuple_cmp ks t) ≡ insert_key fact_cmp (map fact_of ks) (fact_of t)
        → map fact_of (match_ordering o (t ∷ k ∷ ks) (k ∷ ks) (k ∷ insert_key tuple_cmp ks t))
        ≡ match_ordering o (fact_of t ∷ fact_of k ∷ map fact_of ks) (fact_of k ∷ map fact_of ks) (fact_of k ∷ insert_key fact_cmp (map fact_of ks) (fact_of t))
    by Less h = refl
    by Equal h = refl
    by Greater h = ap (λ l. fact_of k ∷ l) h

below_mapped : (t : Tuple) (ks : List Tuple) → AllByRecursion (λ k. tuple_cmp t k ≡ Less) ks → AllByRecursion (λ y. fact_cmp (fact_of t) y ≡ Less) (map fact_of ks)
below_mapped t [] a = tt
below_mapped t (k ∷ ks) a = (a.0, below_mapped t ks a.1)

pub sorted_mapped : (ks : List Tuple) → IsStrictlySortedBy tuple_cmp ks → IsRepository (map fact_of ks)
unfolding IsStrictlySortedBy
sorted_mapped [] s = tt
sorted_mapped (k ∷ ks) s = (below_mapped k ks s.0, sorted_mapped ks s.1)

remove_mapped : (t : Tuple) (ks : List Tuple) → map fact_of (remove_key (λ k. is_eq (tuple_cmp t k)) ks) ≡ remove_key (same_fact (fact_of t)) (map fact_of ks)
remove_mapped t [] = refl
remove_mapped t (k ∷ ks) = by (is_eq (tuple_cmp t k)) (remove_mapped t ks)
  where
    by : (b : Bool) → map fact_of (remove_key (λ k. is_eq (tuple_cmp t k)) ks) ≡ remove_key (same_fact (fact_of t)) (map fact_of ks)
        → map fact_of (cond b ks (k ∷ remove_key (λ k. is_eq (tuple_cmp t k)) ks)) ≡ cond b (map fact_of ks) (fact_of k ∷ remove_key (same_fact (fact_of t)) (map fact_of ks))
    by true h = refl
    by false h = ap (λ l. fact_of k ∷ l) h

-- What is above t is not t.
pub kept_above : (t : Fact) (D : List Fact) → AllByRecursion (λ y. fact_cmp t y ≡ Less) D → filter (λ s. not (same_fact t s)) D ≡ D
kept_above t [] a = refl
kept_above t (u ∷ D) a = ap (λ o. cond (not (is_eq o)) (u ∷ filter (λ s. not (same_fact t s)) D) (filter (λ s. not (same_fact t s)) D)) a.0 ∙ ap (λ l. u ∷ l) (kept_above t D a.1)

remove_is_filter : (t : Fact) (D : List Fact) → IsRepository D → remove_key (same_fact t) D ≡ filter (λ s. not (same_fact t s)) D
unfolding IsStrictlySortedBy
remove_is_filter t [] s = refl
remove_is_filter t (u ∷ D) s = by (same_fact t u) refl (remove_is_filter t D s.1)
  where
    by : (b : Bool) → same_fact t u ≡ b → remove_key (same_fact t) D ≡ filter (λ s. not (same_fact t s)) D
        → cond b D (u ∷ remove_key (same_fact t) D) ≡ cond (not b) (u ∷ filter (λ s. not (same_fact t s)) D) (filter (λ s. not (same_fact t s)) D)
    by true e h = sym (kept_above t D (subst (λ (v : Fact). AllByRecursion (λ y. fact_cmp v y ≡ Less) D) (sym (same_exact t u e)) s.0))
    by false e h = ap (λ l. u ∷ l) h

-- A tuple taken away from the set is deleted from the repository.
pub delete_mapped : (t : Tuple) (ks : List Tuple) → IsRepository (map fact_of ks) → map fact_of (remove_key (λ k. is_eq (tuple_cmp t k)) ks) ≡ filter (λ s. not (same_fact (fact_of t) s)) (map fact_of ks)
delete_mapped t ks s = remove_mapped t ks ∙ remove_is_filter (fact_of t) (map fact_of ks) s

-- ---- a copy, tuple by tuple

pub empty_in_order : IsRepository []
unfolding IsStrictlySortedBy
empty_in_order = tt
