-- Members of repositories: which there are, which pass a test, and which of them is the first.
use Rattle.std.proofs.Common.{◌≡◌, ap, refl, sym, ◌∙◌, List, [], ◌∷◌, Bool, true, false, ◌||◌, ◌&&◌, cond, Some, None, inl, inr}
use Rattle.std.specs.List.{list_any, AllByRecursion}
use Rattle.std.specs.List.Sorted.{IsStrictlySortedBy}
use Rattle.std.specs.Prelude.{find, filter}
use Rattle.std.specs.declared.cmp.Ordering.TheVariants.{Less}
use Rattle.std.proofs.lemmas.Bool.{or_cases}
use Rattle.def_chase.specs.Values.{Fact, fact_cmp, same_fact}
use Rattle.def_chase.specs.Repository.{IsRepository, has}
use Rattle.def_chase.proofs.Bools.{differ, or_left, or_right}
use Rattle.def_chase.proofs.Sets.{same_exact, same_itself}
use Rattle.def_chase.proofs.Searches.{all_weaker}

pub one_in : (q : Fact → Bool) (D : List Fact) → list_any q D ≡ true → (t : Fact) × (has D t ≡ true) × (q t ≡ true)
one_in q [] e = differ e
one_in q (u ∷ D) e =
    elim (or_cases (q u) (list_any q D) e) [
      | inl h ↦ (u, or_left (same_fact u u) (has D u) (same_itself u), h)
      | inr h ↦ let r = one_in q D h in (r.0, or_right (same_fact r.0 u) (has D r.0) r.1, r.2)
    ]

pub any_of : (q : Fact → Bool) (D : List Fact) (t : Fact) → has D t ≡ true → q t ≡ true → list_any q D ≡ true
any_of q [] t h e = differ h
any_of q (u ∷ D) t h e =
    elim (or_cases (same_fact t u) (has D t) h) [
      | inl s ↦ or_left (q u) (list_any q D) (ap q (sym (same_exact t u s)) ∙ e)
      | inr s ↦ or_right (q u) (list_any q D) (any_of q D t s e)
    ]

pub each_has : (E : List Fact) → AllByRecursion (λ t. has E t ≡ true) E
each_has [] = tt
each_has (t ∷ E) = (or_left (same_fact t t) (has E t) (same_itself t), all_weaker (λ u. has E u ≡ true) (λ u. has (t ∷ E) u ≡ true) (λ u h. or_right (same_fact u t) (has E u) h) E (each_has E))

pub has-filter : (q : Fact → Bool) (D : List Fact) (s : Fact) → has (filter q D) s ≡ (has D s && q s)
has-filter q [] s = refl
has-filter q (u ∷ D) s = by (q u) refl (same_fact s u) refl (has-filter q D s)
  where
    or_self : (h b : Bool) → b ≡ true → (true || (h && b)) ≡ ((true || h) && b)
    or_self h true e = refl
    or_self h false e = differ e

    gone : (h b : Bool) → b ≡ false → (h && b) ≡ ((true || h) && b)
    gone true b e = refl
    gone false false e = refl
    gone false true e = differ (sym e)

    by : (b : Bool) → q u ≡ b → (c : Bool) → same_fact s u ≡ c → has (filter q D) s ≡ (has D s && q s) → has (cond b (u ∷ filter q D) (filter q D)) s ≡ ((c || has D s) && q s)
    by true e true f h = ap (λ b. b || has (filter q D) s) f ∙ sym (ap q (same_exact s u f) ∙ e)
    by true e false f h = ap (λ b. b || has (filter q D) s) f ∙ h
    by false e true f h = h ∙ gone (has D s) (q s) (ap q (same_exact s u f) ∙ e)
    by false e false f h = h

pub above_all : (u t : Fact) (E : List Fact) → AllByRecursion (λ v. fact_cmp u v ≡ Less) E → has E t ≡ true → fact_cmp u t ≡ Less
above_all u t [] a h = differ h
above_all u t (v ∷ E) a h = elim (or_cases (same_fact t v) (has E t) h) [ inl e ↦ ap (fact_cmp u) (same_exact t v e) ∙ a.0 | inr e ↦ above_all u t E a.1 e ]

-- A member that passes and has none below it that passes is the first that passes.
pub least_found : (p : Fact → Bool) (E : List Fact) (t : Fact) → IsRepository E → has E t ≡ true → p t ≡ true
    → ((u : Fact) → has E u ≡ true → p u ≡ true → fact_cmp u t ≡ Less → ⊥) → find p E ≡ Some t
unfolding IsStrictlySortedBy
least_found p [] t s h a low = differ h
least_found p (u ∷ E) t s h a low =
    elim (or_cases (same_fact t u) (has E t) h) [
      | inl g ↦ ap (λ b. cond b (Some u) (find p E)) (ap p (sym (same_exact t u g)) ∙ a) ∙ ap (λ (x : Fact). Some x) (sym (same_exact t u g))
      | inr g ↦ by (p u) refl (above_all u t E s.0 g) (least_found p E t s.1 g a (λ v k. low v (or_right (same_fact v u) (has E v) k)))
    ]
  where
    by : (b : Bool) → p u ≡ b → fact_cmp u t ≡ Less → find p E ≡ Some t → cond b (Some u) (find p E) ≡ Some t
    by true e f r = absurd (low u (or_left (same_fact u u) (has E u) (same_itself u)) e f)
    by false e f r = r

-- Where no member passes none is found.
pub none_found : (p : Fact → Bool) (E : List Fact) → ((u : Fact) → has E u ≡ true → p u ≡ true → ⊥) → find p E ≡ None
none_found p [] h = refl
none_found p (u ∷ E) h = by (p u) refl (none_found p E (λ v k. h v (or_right (same_fact v u) (has E v) k)))
  where
    by : (b : Bool) → p u ≡ b → find p E ≡ None → cond b (Some u) (find p E) ≡ None
    by true e r = absurd (h u (or_left (same_fact u u) (has E u) (same_itself u)) e)
    by false e r = r

-- What is found is a member.
pub found_has : (p : Fact → Bool) (E : List Fact) (t : Fact) → find p E ≡ Some t → has E t ≡ true
found_has p [] t e = cc
found_has p (u ∷ E) t e = by (p u) e (found_has p E t)
  where
    by : (b : Bool) → cond b (Some u) (find p E) ≡ Some t → (find p E ≡ Some t → has E t ≡ true) → (same_fact t u || has E t) ≡ true
    by true f rest = or_left (same_fact t u) (has E t) (ap (λ (v : Fact). same_fact t v) (same f) ∙ same_itself t)
      where
        same : Some u ≡ Some t → u ≡ t
        same f = cc
    by false f rest = or_right (same_fact t u) (has E t) (rest f)
