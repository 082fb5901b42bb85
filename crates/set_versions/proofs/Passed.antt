-- Passing the taken tuples in order.
use Rattle.std.proofs.Common.{◌≡◌, ap, refl, sym, ◌∙◌, subst, List, [], ◌∷◌, ◌++◌, Bool, true, false, ◌||◌, not, cond, map, Option, Some, None, Bor}
use Rattle.std.specs.List.{AllByRecursion}
use Rattle.std.specs.List.Sorted.{IsStrictlySortedBy}
use Rattle.std.specs.Map.{keys_of}
use Rattle.std.specs.Option.{option_copied, option_to_list}
use Rattle.std.specs.Prelude.{IfNone}
use Rattle.std.specs.Ordering.{on, ordering_reverse}
use Rattle.std.specs.declared.cmp.Ordering.TheVariants.{Less, Equal, Greater}
use Rattle.base_types.specs.Meanings.{fact_of}
use Rattle.base_types.specs.declared.tuples.Tuple.{Tuple}
use Rattle.set_facts.proofs.Unions.{not_below_itself}
use Rattle.set_facts.specs.Runs.{left_of}
use Rattle.def_chase.specs.Repository.{IsRepository, has}
use Rattle.def_chase.specs.Values.{Fact, fact_cmp, same_fact}
use Rattle.def_chase.proofs.Order.{fact_total, fact_exact}
use Rattle.def_chase.proofs.Searches.{all_weaker}
use Rattle.def_chase.proofs.Sets.{same_exact, same_itself}
use Rattle.base_tree.specs.Orders.{IsOrdered}

-- A tuple below another is not it, nor one above it.
not_above : (s t : Fact) → fact_cmp s t ≡ Less → same_fact t s ≡ false
not_above s t e = by (same_fact t s) refl
  where
    by : (b : Bool) → same_fact t s ≡ b → b ≡ false
    by true f = absurd (not_below_itself s (sym (ap (fact_cmp s) (same_exact t s f)) ∙ e))
    by false f = refl

not_below : (s t : Fact) → fact_cmp s t ≡ Less → same_fact s t ≡ false
not_below s t e = by (same_fact s t) refl
  where
    by : (b : Bool) → same_fact s t ≡ b → b ≡ false
    by true f = absurd (not_below_itself s (ap (fact_cmp s) (same_exact s t f) ∙ e))
    by false f = refl

absent_below : (t : Fact) (D : List Fact) → AllByRecursion (λ u. fact_cmp t u ≡ Less) D → has D t ≡ false
absent_below t [] a = refl
absent_below t (u ∷ D) a = (λ i. not_below t u a.0 i || absent_below t D a.1 i)

-- Some tuples in order, and a tuple beside the first of them.
module _ (P Q : List Fact) (h t : Fact) (is : P ≡ h ∷ Q) (s : IsRepository P) where
  pub rest_in_order : IsRepository Q
  unfolding IsStrictlySortedBy
  rest_in_order = (subst IsRepository is s).1

  pub has_passed : fact_cmp h t ≡ Less → has P t ≡ has Q t
  has_passed e = ap (λ (D : List Fact). has D t) is ∙ ap (λ b. b || has Q t) (not_above h t e)

  pub above_passed : fact_cmp h t ≡ Less → (u : Fact) → fact_cmp t u ≡ Less → has P u ≡ has Q u
  above_passed e u f = ap (λ (D : List Fact). has D u) is ∙ ap (λ b. b || has Q u) (not_above h u (fact_total.trans h t u e f))

  pub has_first : fact_cmp h t ≡ Equal → true ≡ has P t
  has_first e = sym (ap (λ (D : List Fact). has D t) is ∙ ap (λ b. b || has Q t) (ap (same_fact t) (fact_exact h t e) ∙ same_itself t))

  pub has_not : fact_cmp h t ≡ Greater → false ≡ has P t
  unfolding IsStrictlySortedBy
  has_not e =
      let less : fact_cmp t h ≡ Less = fact_total.antisymm t h ∙ ap ordering_reverse e in
      let order : IsRepository (h ∷ Q) = subst IsRepository is s in
      sym (ap (λ (D : List Fact). has D t) is ∙ absent_below t (h ∷ Q) (less, all_weaker (λ u. fact_cmp h u ≡ Less) (λ u. fact_cmp t u ≡ Less) (λ u f. fact_total.trans t h u less f) Q order.0))

-- What is left of tuples above another is the same without what is not above it.
left_same : (P Q : List Fact) (t : Fact) → ((u : Fact) → fact_cmp t u ≡ Less → has Q u ≡ has P u) → (D : List Fact) → AllByRecursion (λ u. fact_cmp t u ≡ Less) D → left_of Q D ≡ left_of P D
left_same P Q t h [] a = refl
left_same P Q t h (u ∷ D) a =
    ap (λ b. cond (not b) (u ∷ left_of Q D) (left_of Q D)) (h u a.0) ∙ ap (λ (l : List Fact). cond (not (has P u)) (u ∷ l) l) (left_same P Q t h D a.1)

module _ (P Q D rest : List Fact) (t : Fact) (next : D ≡ t ∷ rest) (s : IsRepository D) (above : (u : Fact) → fact_cmp t u ≡ Less → has Q u ≡ has P u) where
  those_after : left_of Q rest ≡ left_of P rest
  unfolding IsStrictlySortedBy
  those_after = left_same P Q t above rest (subst IsRepository next s).0

  pub left_kept : false ≡ has P t → left_of P D ≡ t ∷ left_of Q rest
  left_kept e = ap (left_of P) next ∙ ap (λ b. cond (not b) (t ∷ left_of P rest) (left_of P rest)) (sym e) ∙ ap (λ l. t ∷ l) (sym those_after)

  pub left_passed : true ≡ has P t → left_of P D ≡ left_of Q rest
  left_passed e = ap (left_of P) next ∙ ap (λ b. cond (not b) (t ∷ left_of P rest) (left_of P rest)) (sym e) ∙ sym those_after

-- ---- the taken tuples

module _ {V : Type 0} where
  below_all : (k : Tuple) (es : List (Tuple × V)) → AllByRecursion (λ y. on fact_of fact_cmp k y ≡ Less) (keys_of es) → AllByRecursion (λ u. fact_cmp (fact_of k) u ≡ Less) (map (λ e. fact_of e.0) es)
  below_all k [] a = tt
  below_all k (e ∷ es) a = (a.0, below_all k es a.1)

  pub taken_in_order : (es : List (Tuple × V)) → IsOrdered (on fact_of fact_cmp) es → IsRepository (map (λ e. fact_of e.0) es)
  unfolding IsStrictlySortedBy
  taken_in_order [] s = tt
  taken_in_order (e ∷ es) s = (below_all e.0 es s.0, taken_in_order es s.1)

-- After the last one there is none.
pub none_after_it : {A : Type 0} (o : Option (Bor A)) (D rest : List A) → D ≡ option_to_list (option_copied o) ++ rest → IfNone o (D ≡ []) → IfNone o (rest ≡ [])
none_after_it None D rest step end = sym step ∙ end
none_after_it (Some x) D rest step end = tt
