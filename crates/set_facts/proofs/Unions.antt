-- The first tuple of a union that passes is the lesser of those of its parts.
use Rattle.std.proofs.Common.{◌≡◌, ap, refl, sym, ◌∙◌, List, Bool, true, false, ◌||◌, ◌&&◌, cond, Option, Some, None, inl, inr}
use Rattle.std.specs.Cmp.{tied_itself}
use Rattle.std.specs.Ordering.{is_lt, is_gt, ordering_reverse}
use Rattle.std.specs.Prelude.{find, filter}
use Rattle.std.specs.declared.cmp.Ordering.{Ordering}
use Rattle.std.specs.declared.cmp.Ordering.TheVariants.{Less, Equal, Greater}
use Rattle.std.proofs.lemmas.Bool.{and_parts, or_cases}
use Rattle.def_chase.specs.Values.{Fact, fact_cmp, same_fact}
use Rattle.def_chase.specs.Repository.{IsRepository, has}
use Rattle.def_chase.proofs.Bools.{differ, both, or_left, or_right}
use Rattle.def_chase.proofs.Cursors.{found_begins}
use Rattle.def_chase.proofs.Members.{has-filter, least_found, none_found, found_has}
use Rattle.def_chase.proofs.Order.{fact_total, fact_exact}
use Rattle.def_chase.proofs.Searches.{none_passes, found_passes}
use Rattle.def_chase.proofs.Sets.{same_exact}
use Rattle.set_facts.specs.Overlaid.{lesser}

pub not_below_itself : (s : Fact) → fact_cmp s s ≡ Less → ⊥
not_below_itself s e = no (sym (tied_itself fact_total s) ∙ e)
  where
    no : Equal ≡ Less → ⊥
    no f = cc

-- A tuple above t comes after what is t or below t.
pub lt_less : (t u : Fact) → is_lt (fact_cmp t u) ≡ true → fact_cmp t u ≡ Less
lt_less t u e = by (fact_cmp t u) e
  where
    by : (o : Ordering) → is_lt o ≡ true → o ≡ Less
    by Less f = refl
    by Equal f = differ f
    by Greater f = differ f

-- No tuple of D that passes is below t.
abbrev NoneBelow : (Fact → Bool) → List Fact → Fact → Type 0
NoneBelow p D t = (u : Fact) → has D u ≡ true → p u ≡ true → fact_cmp u t ≡ Less → ⊥

passing : (p : Fact → Bool) (D : List Fact) (u : Fact) → has D u ≡ true → p u ≡ true → has (filter p D) u ≡ true
passing p D u h a = has-filter p D u ∙ both (has D u) (p u) h a

absent : (p : Fact → Bool) (D : List Fact) → find p D ≡ None → (u : Fact) → has D u ≡ true → p u ≡ true → ⊥
absent p D e u h a = no (sym (ap (λ (l : List Fact). has l u) (none_passes p D e)) ∙ passing p D u h a)
  where
    no : false ≡ true → ⊥
    no f = differ f

none_below : (p : Fact → Bool) (D : List Fact) (t : Fact) → IsRepository D → find p D ≡ Some t → NoneBelow p D t
none_below p D t s e u h a l =
    elim (or_cases (same_fact u t) (has (filter (λ v. p v && is_lt (fact_cmp t v)) D) u) (sym (ap (λ (k : List Fact). has k u) (found_begins p D t s e)) ∙ passing p D u h a)) [
      | inl f ↦ not_below_itself t (ap (λ (v : Fact). fact_cmp v t) (sym (same_exact u t f)) ∙ l)
      | inr f ↦
          let above = and_parts (p u) (is_lt (fact_cmp t u)) (and_parts (has D u) (p u && is_lt (fact_cmp t u)) (sym (has-filter (λ v. p v && is_lt (fact_cmp t v)) D u) ∙ f)).1 in
          not_below_itself t (fact_total.trans t u t (lt_less t u above.1) l)
    ]

-- What is not below t is not below what is not above t.
lower : (p : Fact → Bool) (D : List Fact) (s t : Fact) (o : Ordering) → fact_cmp s t ≡ o → is_gt o ≡ false → NoneBelow p D t → NoneBelow p D s
lower p D s t Less e f n u h a l = n u h a (fact_total.trans u s t l e)
lower p D s t Equal e f n u h a l = n u h a (ap (fact_cmp u) (sym (fact_exact s t e)) ∙ l)
lower p D s t Greater e f n u h a l = differ (sym f)

module _ (p : Fact → Bool) (A B E : List Fact) (a : IsRepository A) (b : IsRepository B) (s : IsRepository E) (whole : (u : Fact) → has E u ≡ (has A u || has B u)) where
  part : (u : Fact) → has E u ≡ true → ((has A u ≡ true → ⊥) × (has B u ≡ true → ⊥)) → ⊥
  part u h n = elim (or_cases (has A u) (has B u) (sym (whole u) ∙ h)) [ inl x ↦ n.0 x | inr y ↦ n.1 y ]

  in_one : (u : Fact) → has A u ≡ true → has E u ≡ true
  in_one u h = whole u ∙ or_left (has A u) (has B u) h

  in_other : (u : Fact) → has B u ≡ true → has E u ≡ true
  in_other u h = whole u ∙ or_right (has A u) (has B u) h

  found : (t : Fact) → has E t ≡ true → p t ≡ true → NoneBelow p A t → NoneBelow p B t → find p E ≡ Some t
  found t h e m n = least_found p E t s h e (λ u g f l. part u g (λ x. m u x f l, λ y. n u y f l))

  -- The first of the union.
  pub find_union : find p E ≡ lesser (find p A) (find p B)
  find_union = by (find p A) refl (find p B) refl
    where
      two : (x y : Fact) → find p A ≡ Some x → find p B ≡ Some y → (c : Bool) → is_gt (fact_cmp x y) ≡ c → find p E ≡ Some (cond c y x)
      two x y e f true g = found y (in_other y (found_has p B y f)) (found_passes p B y f) (lower p A y x (fact_cmp y x) refl (turned (fact_cmp x y) g (fact_cmp y x) (fact_total.antisymm y x)) (none_below p A x a e)) (none_below p B y b f)
        where
          turned : (o : Ordering) → is_gt o ≡ true → (q : Ordering) → q ≡ ordering_reverse o → is_gt q ≡ false
          turned Greater h q k = ap is_gt k
          turned Less h q k = differ h
          turned Equal h q k = differ h
      two x y e f false g = found x (in_one x (found_has p A x e)) (found_passes p A x e) (none_below p A x a e) (lower p B x y (fact_cmp x y) refl g (none_below p B y b f))

      by : (m : Option Fact) → find p A ≡ m → (n : Option Fact) → find p B ≡ n → find p E ≡ lesser m n
      by None e None f = none_found p E (λ u h g. part u h (λ x. absent p A e u x g, λ y. absent p B f u y g))
      by None e (Some y) f = found y (in_other y (found_has p B y f)) (found_passes p B y f) (λ u h g l. absent p A e u h g) (none_below p B y b f)
      by (Some x) e None f = found x (in_one x (found_has p A x e)) (found_passes p A x e) (none_below p A x a e) (λ u h g l. absent p B f u h g)
      by (Some x) e (Some y) f = two x y e f (is_gt (fact_cmp x y)) refl
