-- A relation before that of a set's first tuple, or after that of its last one, has no tuple in it.
use Rattle.std.proofs.Common.{◌≡◌, ◌∙◌, ◌<◌, ◌-◌, ℕ, suc, ap, refl, sym, List, [], ◌∷◌, ◌||◌, false, map, length, subst, slice_get, Some, arith}
use Rattle.std.proofs.lemmas.Bool.{ne_eqb}
use Rattle.std.proofs.lemmas.Option.{same_Some}
use Rattle.std.specs.List.{AllByRecursion, list_any}
use Rattle.std.specs.List.Sorted.{IsStrictlySortedBy}
use Rattle.std.specs.Ordering.{is_le}
use Rattle.std.specs.declared.cmp.Ordering.TheVariants.{Less}
use Rattle.def_chase.specs.Values.{Fact, fact_cmp}
use Rattle.def_chase.specs.Cursors.{is_of}
use Rattle.def_chase.specs.Repository.{IsRepository}
use Rattle.def_chase.proofs.Ranges.{relation_le}
use Rattle.base_types.specs.Meanings.{fact_of}
use Rattle.base_types.specs.declared.tuples.Tuple.{Tuple}
use Rattle.set_facts.proofs.After.{below_last}

none_above : (r : ℕ) (v : Fact) (D : List Fact) → r < v.relation → AllByRecursion (λ y. fact_cmp v y ≡ Less) D → list_any (is_of r) D ≡ false
none_above r v [] h a = refl
none_above r v (u ∷ D) h a =
    let above = relation_le v u (ap is_le a.0) in
    ap (λ b. b || list_any (is_of r) D) (ne_eqb u.relation r (λ e. omega (arith, e, above, h))) ∙ none_above r v D h a.1

pub before_first : (r : ℕ) (D : List Tuple) (s : Tuple) → IsRepository (map fact_of D) → slice_get D 0 ≡ Some s → r < s.relation → list_any (is_of r) (map fact_of D) ≡ false
unfolding IsStrictlySortedBy
before_first r [] s a g h = refl
before_first r (u ∷ D) s a g h =
    let here : r < u.relation = subst (λ (t : Tuple). r < t.relation) (sym (same_Some u s g)) h in
    ap (λ b. b || list_any (is_of r) (map fact_of D)) (ne_eqb u.relation r (λ e. omega (arith, e, here))) ∙ none_above r (fact_of u) (map fact_of D) here a.0

none_below : (r : ℕ) (u : Tuple) (D : List Tuple) (s : Tuple) → IsRepository (map fact_of (u ∷ D)) → slice_get (u ∷ D) (length D) ≡ Some s → s.relation < r → list_any (is_of r) (map fact_of (u ∷ D)) ≡ false
unfolding IsStrictlySortedBy
none_below r u [] s a g h =
    let here : u.relation < r = subst (λ (t : Tuple). t.relation < r) (sym (same_Some u s g)) h in
    ap (λ b. b || false) (ne_eqb u.relation r (λ e. omega (arith, e, here)))
none_below r u (v ∷ D) s a g h =
    let below = relation_le (fact_of u) (fact_of s) (ap is_le (below_last (fact_of u) v D s g a.0)) in
    ap (λ b. b || list_any (is_of r) (map fact_of (v ∷ D))) (ne_eqb u.relation r (λ e. omega (arith, e, below, h))) ∙ none_below r v D s a.1 g h

pub after_last : (r : ℕ) (D : List Tuple) (s : Tuple) → IsRepository (map fact_of D) → slice_get D (length D - 1) ≡ Some s → s.relation < r → list_any (is_of r) (map fact_of D) ≡ false
after_last r [] s a g h = refl
after_last r (u ∷ D) s a g h =
    let one : suc (length D) - 1 ≡ length D = omega arith in
    none_below r u D s a (ap (slice_get (u ∷ D)) (sym one) ∙ g) h
