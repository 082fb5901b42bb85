-- What is read of the set of tuples by its iterators, as what is found in the repository.
use Rattle.std.proofs.Common.{◌≡◌, ℕ, suc, ◌<◌, ◌≤◌, arith, ap, refl, sym, ◌∙◌, List, [], ◌∷◌, map, Bool, true, false, ◌||◌, cond, Some, None, Option, Bor}
use Rattle.std.specs.Map.Iter.{TakesFirst, deref}
use Rattle.std.specs.Option.{option_map, option_copied}
use Rattle.std.specs.Prelude.{filter, find}
use Rattle.std.specs.Cmp.Lexicographic.{slice_cmp}
use Rattle.std.specs.List.{All, list_any}
use Rattle.std.specs.Ordering.{is_lt, is_gt, nat_cmp, ordering_then, MatchOrdering}
use Rattle.std.specs.declared.cmp.Ordering.{Ordering}
use Rattle.std.specs.declared.cmp.Ordering.TheVariants.{Less, Equal, Greater}
use Rattle.std.proofs.lemmas.Bool.{ne_eqb}
use Rattle.std.proofs.lemmas.Cmp.{ranked}
use Rattle.def_chase.specs.Values.{Fact, datum_cmp, fact_cmp}
use Rattle.def_chase.specs.Cursors.{is_of}
use Rattle.def_chase.proofs.Searches.{head}
use Rattle.base_types.specs.Meanings.{fact_of}
use Rattle.base_types.specs.declared.tuples.Tuple.{Tuple}
use Rattle.set_facts.proofs.Held.{tuple_cmp}

headed : (s t : List Tuple) (r : Option (Bor Tuple)) → TakesFirst deref s r t → option_map fact_of (option_copied r) ≡ head (map fact_of s)
headed s t None h = ap (λ (l : List Tuple). head (map fact_of l)) (sym h.0)
headed s t (Some x) h = ap (λ (l : List Tuple). head (map fact_of l)) (sym h)

head_filter : (p : Tuple → Bool) (q : Fact → Bool) → ((k : Tuple) → p k ≡ q (fact_of k)) → (ks : List Tuple) → head (map fact_of (filter p ks)) ≡ find q (map fact_of ks)
head_filter p q same [] = refl
head_filter p q same (k ∷ ks) = by (p k) (head_filter p q same ks) ∙ ap (λ b. cond b (Some (fact_of k)) (find q (map fact_of ks))) (same k)
  where
    by : (b : Bool) → head (map fact_of (filter p ks)) ≡ find q (map fact_of ks) → head (map fact_of (cond b (k ∷ filter p ks) (filter p ks))) ≡ cond b (Some (fact_of k)) (find q (map fact_of ks))
    by true h = refl
    by false h = h

-- The first of what a range holds is the first that passes.
pub next_is_find : (p : Tuple → Bool) (q : Fact → Bool) → ((k : Tuple) → p k ≡ q (fact_of k)) → (ks s t : List Tuple) (r : Option (Bor Tuple)) → s ≡ filter p ks → TakesFirst deref s r t → option_map fact_of (option_copied r) ≡ find q (map fact_of ks)
next_is_find p q same ks s t r e h = headed s t r h ∙ ap (λ (l : List Tuple). head (map fact_of l)) e ∙ head_filter p q same ks

-- ---- past the end

-- What is not above has no greater relation.
not_above : (s t : Fact) → is_lt (fact_cmp s t) ≡ false → t.relation ≤ s.relation
not_above s t = by (nat_cmp s.relation t.relation) (ranked s.relation t.relation _ refl)
  where
    by : (o : Ordering) → MatchOrdering o (s.relation < t.relation) (s.relation ≡ t.relation) (t.relation < s.relation) → is_lt (ordering_then o (slice_cmp datum_cmp s.values t.values)) ≡ false → t.relation ≤ s.relation
    by Less m e = cc
    by Equal m e = omega arith
    by Greater m e = omega arith

-- A relation above that of a tuple that none is above has no tuple.
pub none_past_end : (r : ℕ) (last : Tuple) (ks : List Tuple) → last.relation < r → All (λ k. is_lt (tuple_cmp last k) ≡ false) ks → find (is_of r) (map fact_of ks) ≡ None
none_past_end r last [] h a = refl
none_past_end r last (k ∷ ks) h a =
    let below = not_above (fact_of last) (fact_of k) (a 0 k (omega arith)) in
    ap (λ b. cond b (Some (fact_of k)) (find (is_of r) (map fact_of ks))) (ne_eqb k.relation r (λ e. omega (arith, e, below, h)))
    ∙ none_past_end r last ks h (λ i d g. a (suc i) d (omega (arith, g)))

-- ---- before the beginning

-- What is not below has no lesser relation.
not_below : (s t : Fact) → is_gt (fact_cmp s t) ≡ false → s.relation ≤ t.relation
not_below s t = by (nat_cmp s.relation t.relation) (ranked s.relation t.relation _ refl)
  where
    by : (o : Ordering) → MatchOrdering o (s.relation < t.relation) (s.relation ≡ t.relation) (t.relation < s.relation) → is_gt (ordering_then o (slice_cmp datum_cmp s.values t.values)) ≡ false → s.relation ≤ t.relation
    by Less m e = omega arith
    by Equal m e = omega arith
    by Greater m e = cc

-- A relation below that of a tuple that none is below has no tuple.
pub none_before_first : (r : ℕ) (first : Tuple) (ks : List Tuple) → r < first.relation → All (λ k. is_gt (tuple_cmp first k) ≡ false) ks → list_any (is_of r) (map fact_of ks) ≡ false
none_before_first r first [] h a = refl
none_before_first r first (k ∷ ks) h a =
    let above = not_below (fact_of first) (fact_of k) (a 0 k (omega arith)) in
    ap (λ b. b || list_any (is_of r) (map fact_of ks)) (ne_eqb k.relation r (λ e. omega (arith, e, above, h)))
    ∙ none_before_first r first ks h (λ i d g. a (suc i) d (omega (arith, g)))
