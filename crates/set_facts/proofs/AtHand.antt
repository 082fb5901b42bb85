-- What a set has at hand of the candidates of a relation, or of a relation and a column's value.
use Rattle.std.proofs.Common.{◌≡◌, ℕ, ◌+◌, ◌<◌, ◌≤◌, arith, ap, refl, sym, ◌∙◌, subst, List, [], ◌∷◌, map, Bool, true, false, ◌||◌, ◌&&◌, not, cond, Option, Some, None, inl, inr}
use Rattle.std.specs.declared.vec.Vec.{Vec}
use Rattle.std.specs.declared.alloc.Global.{Global}
use Rattle.std.specs.Cmp.Lexicographic.{slice_cmp}
use Rattle.std.specs.List.{list_any}
use Rattle.std.specs.Ordering.{is_le, nat_cmp, ordering_then, MatchOrdering}
use Rattle.std.specs.Prelude.{filter}
use Rattle.std.specs.declared.cmp.Ordering.{Ordering}
use Rattle.std.specs.declared.cmp.Ordering.TheVariants.{Less, Equal, Greater}
use Rattle.std.proofs.lemmas.Bool.{eq-eqb, ne_eqb, cases_eq}
use Rattle.std.proofs.lemmas.Cmp.{ranked}
use Rattle.def_chase.specs.Values.{Datum, Fact, datum_cmp, fact_cmp, same_fact}
use Rattle.def_chase.specs.Repository.{IsRepository, has}
use Rattle.def_chase.specs.Cursors.{is_of, is_past, is_beyond}
use Rattle.def_chase.proofs.Bools.{differ, and-true}
use Rattle.def_chase.proofs.Members.{has-filter}
use Rattle.def_chase.proofs.Ranges.{least, from_least, from_least_of, relation_le}
use Rattle.def_chase.proofs.Searches.{filter_all}
use Rattle.def_chase.proofs.Sets.{filter_in_order, same_exact, same_repository}
use Rattle.base_types.specs.Candidates.{is_candidate, all_candidates, further_candidates, AreAll, AreFirst, Begin}
use Rattle.base_types.proofs.NextCandidates.{candidate_of}
use Rattle.base_types.specs.Meanings.{fact_of}
use Rattle.base_types.specs.declared.candidates.Candidates.{Candidates}
use Rattle.base_types.specs.declared.candidates.Candidates.TheVariants.{Apart, Absent, Together, Listed, Few, Opening}
use Rattle.base_types.specs.declared.tuples.Tuple.{Tuple}
use Rattle.set_facts.specs.Indexes.{Kept, kept_at, is_in, IsIndex}
use Rattle.set_facts.proofs.Ahead.{beyond_from}

-- ---- the tuples of one relation

no_less : (vs : List Datum) → is_le (slice_cmp datum_cmp [] vs) ≡ true
no_less [] = refl
no_less (v ∷ vs) = refl

-- No tuple up to the relation is from the least one of the next relation on.
below_next : (r : ℕ) (u : Fact) → u.relation ≤ r → is_le (fact_cmp (least (r + 1)) u) ≡ false
below_next r u h = by (nat_cmp (r + 1) u.relation) (ranked (r + 1) u.relation _ refl)
  where
    by : (o : Ordering) → MatchOrdering o (r + 1 < u.relation) (r + 1 ≡ u.relation) (u.relation < r + 1) → is_le (ordering_then o (slice_cmp datum_cmp [] u.values)) ≡ false
    by Less m = absurd (omega (arith, m, h))
    by Equal m = absurd (omega (arith, m, h))
    by Greater m = refl

-- Each tuple of a greater relation is.
from_next : (r : ℕ) (u : Fact) → r < u.relation → is_le (fact_cmp (least (r + 1)) u) ≡ true
from_next r u h = by (nat_cmp (r + 1) u.relation) (ranked (r + 1) u.relation _ refl)
  where
    by : (o : Ordering) → MatchOrdering o (r + 1 < u.relation) (r + 1 ≡ u.relation) (u.relation < r + 1) → is_le (ordering_then o (slice_cmp datum_cmp [] u.values)) ≡ true
    by Less m = refl
    by Equal m = no_less u.values
    by Greater m = absurd (omega (arith, m, h))

-- From the least tuple of a relation up to that of the next one are the tuples of the relation.
between : (r : ℕ) (u : Fact) → (is_le (fact_cmp (least r) u) && not (is_le (fact_cmp (least (r + 1)) u))) ≡ is_of r u
between r u = elim (cases_eq u.relation r) [
  | inl e ↦
      let here : is_of r u ≡ true = eq-eqb u.relation r e in
      let from : is_le (fact_cmp (least r) u) ≡ true = sym (and-true (is_le (fact_cmp (least r) u))) ∙ sym (ap (λ b. b && from_least r u) here) ∙ from_least_of r u ∙ here in
      (λ i. from i && not (below_next r u (omega (arith, e)) i)) ∙ sym here
  | inr n ↦ by (is_le (fact_cmp (least r) u)) refl n ∙ sym (ne_eqb u.relation r n)
]
  where
    by : (b : Bool) → is_le (fact_cmp (least r) u) ≡ b → (u.relation ≡ r → ⊥) → (b && not (is_le (fact_cmp (least (r + 1)) u))) ≡ false
    by true e n =
        let from : r ≤ u.relation = relation_le (least r) u e in
        ap not (from_next r u (omega (arith, from, n)))
    by false e n = refl

-- What a range of the set between them holds means the relation's tuples.
pub in_relation : (p : Tuple → Bool) (r : ℕ) → ((k : Tuple) → p k ≡ (is_le (fact_cmp (least r) (fact_of k)) && not (is_le (fact_cmp (least (r + 1)) (fact_of k))))) → (ks : List Tuple) → filter (is_of r) (map fact_of ks) ≡ map fact_of (filter p ks)
in_relation p r h [] = refl
in_relation p r h (k ∷ ks) =
    (λ i. cond ((sym (between r (fact_of k)) ∙ sym (h k)) i) (fact_of k ∷ in_relation p r h ks i) (in_relation p r h ks i)) ∙ by (p k)
  where
    by : (b : Bool) → cond b (fact_of k ∷ map fact_of (filter p ks)) (map fact_of (filter p ks)) ≡ map fact_of (cond b (k ∷ filter p ks) (filter p ks))
    by true = refl
    by false = refl

-- Up to the least tuple of the next relation those above a tuple are of its relation.
past_within : (t u : Fact) → (is_beyond (Some t) u && not (is_le (fact_cmp (least (t.relation + 1)) u))) ≡ is_past t u
past_within t u = elim (cases_eq u.relation t.relation) [
  | inl e ↦
      (λ i. is_beyond (Some t) u && not (below_next t.relation u (omega (arith, e)) i))
      ∙ and-true (is_beyond (Some t) u)
      ∙ sym (ap (λ b. b && is_beyond (Some t) u) (eq-eqb u.relation t.relation e))
  | inr n ↦ by (is_beyond (Some t) u) refl n ∙ sym (ap (λ b. b && is_beyond (Some t) u) (ne_eqb u.relation t.relation n))
]
  where
    by : (b : Bool) → is_beyond (Some t) u ≡ b → (u.relation ≡ t.relation → ⊥) → (b && not (is_le (fact_cmp (least (t.relation + 1)) u))) ≡ false
    by true e n =
        let from : t.relation ≤ u.relation = relation_le t u (beyond_from t u e) in
        ap not (from_next t.relation u (omega (arith, from, n)))
    by false e n = refl

-- What a range of the set holds means what passes in it.
pub filter_mapped : (p : Tuple → Bool) (q : Fact → Bool) → ((k : Tuple) → p k ≡ q (fact_of k)) → (ks : List Tuple) → map fact_of (filter p ks) ≡ filter q (map fact_of ks)
filter_mapped p q same [] = refl
filter_mapped p q same (k ∷ ks) = by (p k) (filter_mapped p q same ks) ∙ ap (λ b. cond b (fact_of k ∷ filter q (map fact_of ks)) (filter q (map fact_of ks))) (same k)
  where
    by : (b : Bool) → map fact_of (filter p ks) ≡ filter q (map fact_of ks) → map fact_of (cond b (k ∷ filter p ks) (filter p ks)) ≡ cond b (fact_of k ∷ filter q (map fact_of ks)) (filter q (map fact_of ks))
    by true h = ap (λ l. fact_of k ∷ l) h
    by false h = h

-- So does the range that begins after a tuple and ends before the next relation.
pub past_in_range : (p : Tuple → Bool) (t : Fact) → ((k : Tuple) → p k ≡ (is_beyond (Some t) (fact_of k) && not (is_le (fact_cmp (least (t.relation + 1)) (fact_of k))))) → (ks : List Tuple) → map fact_of (filter p ks) ≡ filter (is_past t) (map fact_of ks)
past_in_range p t h = filter_mapped p (is_past t) (λ k. h k ∙ past_within t (fact_of k))

-- ---- whether there is one

-- Where no tuple is of the relation none is a candidate.
pub none_of_relation : (r : ℕ) (c : Option (ℕ × Datum)) (D : List Fact) → list_any (is_of r) D ≡ false → list_any (is_candidate r c) D ≡ false
none_of_relation r c [] e = refl
none_of_relation r c (u ∷ D) e = by (is_of r u) refl (is_candidate r c u) refl (none_of_relation r c D) e
  where
    by : (a : Bool) → is_of r u ≡ a → (b : Bool) → is_candidate r c u ≡ b → (list_any (is_of r) D ≡ false → list_any (is_candidate r c) D ≡ false) → (a || list_any (is_of r) D) ≡ false → (b || list_any (is_candidate r c) D) ≡ false
    by true f b g rest h = cc
    by false f true g rest h = differ (sym f ∙ candidate_of r c u g)
    by false f false g rest h = rest h

-- ---- the tuples with a value in a column

-- What the index keeps at a column's value is all that the set has with it.
group_all : (D : List Fact) (ms : List (Vec Kept Global)) (r c : ℕ) (d : Datum) (G : List Fact) → IsRepository D → IsIndex D ms → G ≡ kept_at ms r c d → IsRepository G → filter (is_in r c d) D ≡ G
group_all D ms r c d G s x e t =
    sym (same_repository G (filter (is_in r c d) D) t (filter_in_order (is_in r c d) D s) (λ u. ap (λ (l : List Fact). has l u) e ∙ x r c d u ∙ sym (has-filter (is_in r c d) D u)))

-- What passes p among what passes q.
pub filter_among : (p q : Fact → Bool) (D : List Fact) → filter (λ u. p u && q u) D ≡ filter q (filter p D)
filter_among p q [] = refl
filter_among p q (u ∷ D) = by (p u) (filter_among p q D)
  where
    by : (b : Bool) → filter (λ v. p v && q v) D ≡ filter q (filter p D) → cond (b && q u) (u ∷ filter (λ v. p v && q v) D) (filter (λ v. p v && q v) D) ≡ filter q (cond b (u ∷ filter p D) (filter p D))
    by true h = λ i. cond (q u) (u ∷ h i) (h i)
    by false h = h

further_among : (D : List Fact) (r : ℕ) (c : Option (ℕ × Datum)) (past : Option Fact) → further_candidates D r c past ≡ filter (is_beyond past) (all_candidates D r c)
further_among D r c None = sym (filter_all (all_candidates D r c))
further_among D r c (Some t) = filter_among (is_candidate r c) (is_beyond (Some t)) D

-- So of those beyond a tuple.
pub group_further : (D : List Fact) (ms : List (Vec Kept Global)) (r c : ℕ) (d : Datum) (past : Option Fact) (G : List Fact) → IsRepository D → IsIndex D ms → G ≡ kept_at ms r c d → IsRepository G → further_candidates D r (Some (c, d)) past ≡ filter (is_beyond past) G
group_further D ms r c d past G s x e t = further_among D r (Some (c, d)) past ∙ ap (filter (is_beyond past)) (group_all D ms r c d G s x e t)

-- ---- through writes

-- A set of which none passes lacks what passes.
pub lacking : (p : Fact → Bool) (D : List Fact) (u : Fact) → list_any p D ≡ false → p u ≡ true → has D u ≡ false
lacking p [] u e h = refl
lacking p (v ∷ D) u e h = by (p v) refl e (λ g. lacking p D u g h)
  where
    other : p v ≡ false → (b : Bool) → same_fact u v ≡ b → (b || has D u) ≡ has D u
    other f true k = differ (sym f ∙ ap p (sym (same_exact u v k)) ∙ h)
    other f false k = refl

    by : (b : Bool) → p v ≡ b → (b || list_any p D) ≡ false → (list_any p D ≡ false → has D u ≡ false) → (same_fact u v || has D u) ≡ false
    by true f g rest = cc
    by false f g rest = other f (same_fact u v) refl ∙ rest g

-- What is told of these tuples of one set is true of the same ones of another.
pub told_too : (x : Candidates) (D E all these : List Fact) → IsRepository E → these ≡ all → AreAll x D all → AreAll x E these
told_too Apart D E all these s e h = tt
told_too Absent D E all these s e h = (s, e ∙ h.1)
told_too (Together range) D E all these s e h = (s, e ∙ h.1)
told_too (Listed tuples) D E all these s e h = (s, e ∙ h.1)
told_too (Few few) D E all these s e h = (s, subst (AreFirst few) (sym e) h.1)
told_too (Opening opening) D E all these s e h = (s, subst (Begin opening) (sym e) h.1)
