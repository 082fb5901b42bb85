-- The tuples that are taken, after one is put in or taken out.
use Rattle.std.proofs.Common.{◌≡◌, ℕ, ap, refl, sym, ◌∙◌, List, [], ◌∷◌, Bool, true, false, ◌||◌, ◌&&◌, cond, filter, find, map, Option, Some, None, Bor, not}
use Rattle.std.specs.BTreeMap.{insert_entry}
use Rattle.std.specs.Cmp.{on_total}
use Rattle.std.specs.List.{AllByRecursion}
use Rattle.std.specs.List.Sorted.{IsStrictlySortedBy}
use Rattle.std.specs.Map.{keys_of}
use Rattle.std.specs.Option.{is_some, option_copied, option_map}
use Rattle.std.specs.Ordering.{is_eq, on}
use Rattle.std.specs.declared.cmp.Ordering.TheVariants.{Less}
use Rattle.base_types.specs.Meanings.{fact_of}
use Rattle.base_types.specs.declared.tuples.Tuple.{Tuple}
use Rattle.def_chase.specs.Repository.{has, IsRepository}
use Rattle.def_chase.specs.Values.{Fact, fact_cmp, same_fact}
use Rattle.def_chase.specs.Cursors.{is_of, is_beyond}
use Rattle.def_chase.proofs.Bools.{and-true, differ}
use Rattle.def_chase.proofs.Searches.{none_passes}
use Rattle.def_chase.proofs.Order.{fact_total}
use Rattle.def_chase.proofs.Sets.{same_exact}
use Rattle.base_tree.specs.Orders.{is_sought, without, IsOrdered}
use Rattle.set_versions.specs.Zones.{place_of}
use Rattle.set_versions.proofs.Holding.{held_same, is_held}
use Rattle.set_versions.proofs.Looking.{look, look_insert, look_without}
use Rattle.set_versions.proofs.Placing.{zone_is}
use Rattle.set_versions.proofs.Seeing.{find_same}

some_mapped : {A B : Type 0} (f : A → B) (o : Option A) → is_some (option_map f o) ≡ is_some o
some_mapped f None = refl
some_mapped f (Some a) = refl

one : (t : Fact) (y z : Tuple) → same_fact t (fact_of y) ≡ true → same_fact t (fact_of z) ≡ is_eq (on fact_of fact_cmp y z)
one t y z h = ap (λ u. same_fact u (fact_of z)) (same_exact t (fact_of y) h)

module _ {V : Type 0} where
  abbrev tuples : List (Tuple × V) → List Fact
  tuples es = map (λ e. fact_of e.0) es

  -- A tuple is among them where its entry is found.
  has_looked : (t : Fact) (es : List (Tuple × V)) → has (tuples es) t ≡ is_some (look (λ k. same_fact t (fact_of k)) es)
  has_looked t [] = refl
  has_looked t (e ∷ es) = by (same_fact t (fact_of e.0)) (has_looked t es)
    where
      by : (b : Bool) → has (tuples es) t ≡ is_some (look (λ k. same_fact t (fact_of k)) es) → (b || has (tuples es) t) ≡ is_some (option_map (λ (f : Tuple × V). f.1) (cond b (Some e) (find (λ f. same_fact t (fact_of f.0)) es)))
      by true i = refl
      by false i = i

  pub held_has : (t : Fact) (es : List (Tuple × V)) (D : List Fact) (o : Option (Tuple × V)) → tuples es ≡ D → o ≡ find (is_held t) es → is_some o ≡ has D t
  held_has t es D o view f =
      ap is_some (f ∙ find_same (is_held t) (λ e. same_fact t (fact_of e.0)) (held_same t) es)
      ∙ sym (some_mapped (λ (e : Tuple × V). e.1) (find (λ e. same_fact t (fact_of e.0)) es)) ∙ sym (has_looked t es) ∙ ap (λ (E : List Fact). has E t) view

  pub put_in : (es new : List (Tuple × V)) (k s : Tuple) (D : List Fact) (b : Bool) (v : V) → k ≡ s → tuples es ≡ D → new ≡ insert_entry (on fact_of fact_cmp) es k v → b ≡ true → (t : Fact) → has (tuples new) t ≡ cond (same_fact t (fact_of s)) b (has D t)
  put_in es new k s D b v key view put is t =
      has_looked t new ∙ ap (λ l. is_some (look (λ x. same_fact t (fact_of x)) l)) put
      ∙ ap is_some (look_insert (on_total fact_of fact_total) (λ x. same_fact t (fact_of x)) (one t) es k v)
      ∙ by (same_fact t (fact_of k))
      ∙ (λ i. cond (same_fact t (fact_of (key i))) (sym is i) (has (view i) t))
    where
      by : (c : Bool) → is_some (cond c (Some v) (look (λ x. same_fact t (fact_of x)) es)) ≡ cond c true (has (tuples es) t)
      by true = refl
      by false = sym (has_looked t es)

  pub taken_out : (es new : List (Tuple × V)) (s : Tuple) (D : List Fact) (b : Bool) → tuples es ≡ D → new ≡ without (on fact_of fact_cmp) s es → b ≡ false → (t : Fact) → has (tuples new) t ≡ cond (same_fact t (fact_of s)) b (has D t)
  taken_out es new s D b view out is t =
      has_looked t new ∙ ap (λ l. is_some (look (λ x. same_fact t (fact_of x)) l)) out
      ∙ ap is_some (look_without (on_total fact_of fact_total) (λ x. same_fact t (fact_of x)) (one t) es s)
      ∙ by (same_fact t (fact_of s))
      ∙ (λ i. cond (same_fact t (fact_of s)) (sym is i) (has (view i) t))
    where
      by : (c : Bool) → is_some (cond c None (look (λ x. same_fact t (fact_of x)) es)) ≡ cond c false (has (tuples es) t)
      by true = refl
      by false = sym (has_looked t es)

  -- Those of a relation that come after a tuple.
  pub zone_taken : (r : ℕ) (past : Option Fact) (es : List (Tuple × V))
      → map fact_of (map (λ (e : Tuple × V). e.0) (filter (is_sought (λ k. place_of r past (fact_of k)) (λ _. true)) es)) ≡ filter (λ u. is_of r u && is_beyond past u) (tuples es)
  zone_taken r past [] = refl
  zone_taken r past (e ∷ es) =
      ap (λ b. facts_in (cond b (e ∷ left) left)) (and-true (is_eq (place_of r past (fact_of e.0))) ∙ zone_is r past (fact_of e.0)) ∙ by (is_of r (fact_of e.0) && is_beyond past (fact_of e.0)) (zone_taken r past es)
    where
      facts_in : List (Tuple × V) → List Fact
      facts_in l = map fact_of (map (λ (f : Tuple × V). f.0) l)

      left : List (Tuple × V)
      left = filter (is_sought (λ k. place_of r past (fact_of k)) (λ _. true)) es

      by : (b : Bool) → facts_in left ≡ filter (λ u. is_of r u && is_beyond past u) (tuples es) → facts_in (cond b (e ∷ left) left) ≡ cond b (fact_of e.0 ∷ filter (λ u. is_of r u && is_beyond past u) (tuples es)) (filter (λ u. is_of r u && is_beyond past u) (tuples es))
      by true i = ap (λ (l : List Fact). fact_of e.0 ∷ l) i
      by false i = i

-- The first of those.
pub first_taken : {V : Type 0} (r : ℕ) (past : Option Fact) (es : List (Tuple × V)) → option_map (λ (e : Tuple × V). fact_of e.0) (find (is_sought (λ k. place_of r past (fact_of k)) (λ _. true)) es) ≡ find (λ u. is_of r u && is_beyond past u) (tuples es)
first_taken r past [] = refl
first_taken {V} r past (e ∷ es) =
    ap (λ b. option_map (λ (f : Tuple × V). fact_of f.0) (cond b (Some e) left)) (and-true (is_eq (place_of r past (fact_of e.0))) ∙ zone_is r past (fact_of e.0)) ∙ by (is_of r (fact_of e.0) && is_beyond past (fact_of e.0)) (first_taken r past es)
  where
    left : Option (Tuple × V)
    left = find (is_sought (λ k. place_of r past (fact_of k)) (λ _. true)) es

    by : (b : Bool) → option_map (λ (f : Tuple × V). fact_of f.0) left ≡ find (λ u. is_of r u && is_beyond past u) (tuples es) → option_map (λ (f : Tuple × V). fact_of f.0) (cond b (Some e) left) ≡ cond b (Some (fact_of e.0)) (find (λ u. is_of r u && is_beyond past u) (tuples es))
    by true i = refl
    by false i = i

-- Where none was found none is sought.
pub none_sought : {A : Type 0} (p : A → Bool) (es : List A) (found : Option (Bor A)) → option_copied found ≡ find p es → (b : Bool) → b ≡ true → is_some found ≡ not b → filter p es ≡ []
none_sought p es None h b t e = none_passes p es (sym h)
none_sought p es (Some x) h b t e = differ (sym (e ∙ ap not t))
