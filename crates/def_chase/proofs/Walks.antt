-- The end of a walk along a function that moves only values of a list is the end of the walk from the next value.
use Rattle.std.proofs.Common.{◌≡◌, ℕ, zero, suc, ◌-◌, ◌<◌, ◌≤◌, ap, refl, sym, ◌∙◌, subst, List, [], ◌∷◌, Bool, true, false, not, ◌||◌, ◌&&◌, cond, length, inl, inr, ◌⊎◌, arith}
use Rattle.std.specs.Cmp.{tied_itself, eq_by_cmp_equiv}
use Rattle.std.specs.List.{list_any, list_all}
use Rattle.std.specs.Ordering.{is_lt, is_gt, ordering_reverse}
use Rattle.std.specs.Prelude.{filter}
use Rattle.std.specs.declared.cmp.Ordering.{Ordering}
use Rattle.std.specs.declared.cmp.Ordering.TheVariants.{Less, Equal, Greater}
use Rattle.std.proofs.lemmas.Bool.{false≢true, or_cases, and_parts, both_ways, cases_lt}
use Rattle.std.proofs.lemmas.Cmp.{upto}
use Rattle.def_chase.specs.Values.{Datum, datum_cmp, same_datum}
use Rattle.def_chase.specs.Unifier.{after, least_after, lesser}
use Rattle.def_chase.proofs.Bools.{both}
use Rattle.def_chase.proofs.Order.{datum_total, datum_exact}
use Rattle.def_chase.proofs.Learning.{same_datum_exact, same_datum_itself}

abbrev pub among : List Datum → Datum → Bool
among S x = list_any (same_datum x) S

-- Some value stands twice.
abbrev pub Repeats : List Datum → Type 0
Repeats [] = ⊥
Repeats (w ∷ ws) = (among ws w ≡ true) ⊎ Repeats ws

others : Datum → List Datum → List Datum
others w S = filter (λ s. not (same_datum s w)) S

fewer-le : (w : Datum) (S : List Datum) → length (others w S) ≤ length S
unfolding others
fewer-le w [] = omega arith
fewer-le w (s ∷ S) = by (same_datum s w) (fewer-le w S)
  where
    by : (b : Bool) → length (filter (λ s. not (same_datum s w)) S) ≤ length S → length (cond (not b) (s ∷ filter (λ s. not (same_datum s w)) S) (filter (λ s. not (same_datum s w)) S)) ≤ suc (length S)
    by true h = omega arith
    by false h = omega arith

fewer : (w : Datum) (S : List Datum) → among S w ≡ true → length (others w S) < length S
unfolding others
fewer w [] h = absurd (false≢true h)
fewer w (s ∷ S) h = by (same_datum s w) refl (fewer-le w S) (fewer w S)
  where
    by : (b : Bool) → same_datum s w ≡ b → length (others w S) ≤ length S → (among S w ≡ true → length (others w S) < length S)
        → length (cond (not b) (s ∷ filter (λ s. not (same_datum s w)) S) (filter (λ s. not (same_datum s w)) S)) < suc (length S)
    by true e k rest = omega arith
    by false e k rest =
        elim (or_cases (same_datum w s) (among S w) h) [
          | inl q ↦ absurd (both_ways (same_datum s w) e ((eq_by_cmp_equiv datum_total).symm s w ∙ q))
          | inr q ↦ let r = rest q in omega (arith, r)
        ]

still_among : (w x : Datum) (S : List Datum) → among S x ≡ true → (x ≡ w → ⊥) → among (others w S) x ≡ true
unfolding others
still_among w x [] h n = h
still_among w x (s ∷ S) h n = by (same_datum s w) refl (still_among w x S)
  where
    by : (b : Bool) → same_datum s w ≡ b → (among S x ≡ true → (x ≡ w → ⊥) → among (others w S) x ≡ true)
        → among (cond (not b) (s ∷ filter (λ s. not (same_datum s w)) S) (filter (λ s. not (same_datum s w)) S)) x ≡ true
    by true e rest = elim (or_cases (same_datum x s) (among S x) h) [ inl q ↦ absurd (n (same_datum_exact x s q ∙ same_datum_exact s w e)) | inr q ↦ rest q n ]
    by false e rest = elim (or_cases (same_datum x s) (among S x) h) [ inl q ↦ ap (λ b. b || among (filter (λ s. not (same_datum s w)) S) x) q | inr q ↦ or_second (same_datum x s) _ (rest q n) ]
      where
        or_second : (a b : Bool) → b ≡ true → (a || b) ≡ true
        or_second true b f = refl
        or_second false b f = f

all_others : (w : Datum) (S ws : List Datum) → list_all (among S) ws ≡ true → among ws w ≡ false → list_all (among (others w S)) ws ≡ true
all_others w S [] h n = refl
all_others w S (x ∷ ws) h n =
    let parts = and_parts (among S x) (list_all (among S) ws) h in
    let differs = or_none (same_datum w x) (among ws w) n in
    both _ _ (still_among w x S parts.0 (λ e. both_ways (same_datum w x) differs.0 (ap (same_datum w) e ∙ same_datum_itself w))) (all_others w S ws parts.1 differs.1)
  where
    or_none : (a b : Bool) → (a || b) ≡ false → (a ≡ false) × (b ≡ false)
    or_none true b e = absurd (false≢true (sym e))
    or_none false b e = (refl, e)

pub pigeonhole : (ws S : List Datum) → length S < length ws → list_all (among S) ws ≡ true → Repeats ws
pigeonhole [] S h a = absurd (omega arith)
pigeonhole (w ∷ ws) S h a = by (among ws w) refl (λ T. pigeonhole ws T)
  where
    by : (b : Bool) → among ws w ≡ b → ((T : List Datum) → length T < length ws → list_all (among T) ws ≡ true → Repeats ws) → Repeats (w ∷ ws)
    by true e rest = inl e
    by false e rest =
        let parts = and_parts (among S w) (list_all (among S) ws) a in
        let less = fewer w S parts.0 in
        inr (rest (others w S) (omega (arith, less)) (all_others w S ws parts.1 e))

module _ (g : Datum → Datum) where
  abbrev pub walk : ℕ → Datum → List Datum
  walk zero x = []
  walk (suc n) x = x ∷ walk n (g x)

  pub after_next : (n : ℕ) (x : Datum) → after n g (g x) ≡ g (after n g x)
  after_next zero x = refl
  after_next (suc n) x = after_next n (g x)

  pub after_split : (i n : ℕ) (x : Datum) → i ≤ n → after n g x ≡ after (n - i) g (after i g x)
  after_split zero n x h = let e : n ≡ n - zero = omega arith in ap (λ k. after k g x) e
  after_split (suc i) zero x h = absurd (omega arith)
  after_split (suc i) (suc n) x h = let e : n - i ≡ suc n - suc i = omega arith in after_split i n (g x) (omega arith) ∙ ap (λ k. after k g (after i g (g x))) e

  -- The value comes again after some steps, no more than n.
  pub record Periodic (n : ℕ) (y : Datum) : Type 0 where
    pub period : ℕ
    pub some : 1 ≤ period
    pub few : period ≤ n
    pub again : after period g y ≡ y

  later : (n k : ℕ) (y : Datum) → Periodic n y → Periodic n (after k g y)
  later n zero y p = p
  later n (suc k) y p = later n k (g y) (record { period = p.period; some = p.some; few = p.few; again = after_next p.period y ∙ ap g p.again })

  in_walk : (n : ℕ) (x y : Datum) → among (walk n x) y ≡ true → (k : ℕ) × (k < n) × (y ≡ after k g x)
  in_walk zero x y h = absurd (false≢true h)
  in_walk (suc n) x y h =
      elim (or_cases (same_datum y x) (among (walk n (g x)) y) h) [
        | inl q ↦ (zero, omega arith, same_datum_exact y x q)
        | inr q ↦ let r = in_walk n (g x) y q in let l : r.0 < n = r.1 in (suc r.0, omega (arith, l), r.2)
      ]

  repeats_at : (n m : ℕ) (x : Datum) → n ≤ m → Repeats (walk (suc n) x) → (i : ℕ) × (i ≤ n) × Periodic m (after i g x)
  repeats_at n m x h (inl q) =
      let r = in_walk n (g x) x q in let l : r.0 < n = r.1 in
      (zero, omega arith, record { period = suc r.0; some = omega arith; few = omega (arith, l); again = sym r.2 })
  repeats_at zero m x h (inr q) = absurd q
  repeats_at (suc n) m x h (inr q) = let r = repeats_at n m (g x) (omega arith) q in let l : r.0 ≤ n = r.1 in (suc r.0, omega (arith, l), r.2)

  all_or_fixed : (S : List Datum) → ((x : Datum) → among S x ≡ false → g x ≡ x) → (n : ℕ) (x : Datum) → (list_all (among S) (walk (suc n) x) ≡ true) ⊎ ((i : ℕ) × (i ≤ n) × (g (after i g x) ≡ after i g x))
  all_or_fixed S stays zero x = by (among S x) refl
    where
      by : (b : Bool) → among S x ≡ b → ((among S x && true) ≡ true) ⊎ ((i : ℕ) × (i ≤ 0) × (g (after i g x) ≡ after i g x))
      by true e = inl (ap (λ b. b && true) e)
      by false e = inr (zero, omega arith, stays x e)
  all_or_fixed S stays (suc n) x = by (among S x) refl (all_or_fixed S stays n (g x))
    where
      by : (b : Bool) → among S x ≡ b → (list_all (among S) (walk (suc n) (g x)) ≡ true) ⊎ ((i : ℕ) × (i ≤ n) × (g (after i g (g x)) ≡ after i g (g x)))
          → ((among S x && list_all (among S) (walk (suc n) (g x))) ≡ true) ⊎ ((i : ℕ) × (i ≤ suc n) × (g (after i g x) ≡ after i g x))
      by false e rest = inr (zero, omega arith, stays x e)
      by true e (inl a) = inl (ap (λ b. b && list_all (among S) (walk (suc n) (g x))) e ∙ a)
      by true e (inr r) = let l : r.0 ≤ n = r.1 in inr (suc r.0, omega (arith, l), r.2)

  length-walk : (n : ℕ) (x : Datum) → length (walk n x) ≡ n
  length-walk zero x = refl
  length-walk (suc n) x = ap suc (length-walk n (g x))

  pub comes_round : (S : List Datum) → ((x : Datum) → among S x ≡ false → g x ≡ x) → (x : Datum) → Periodic (suc (length S)) (after (length S) g x)
  comes_round S stays x =
      elim (all_or_fixed S stays (length S) x) [
        | inl a ↦
            let r = repeats_at (length S) (suc (length S)) x (omega arith) (pigeonhole (walk (suc (length S)) x) S (let e = length-walk (suc (length S)) x in omega (arith, e)) a) in
            at r.0 r.1 r.2
        | inr r ↦ at r.0 r.1 (record { period = 1; some = omega arith; few = omega arith; again = r.2 })
      ]
    where
      at : (i : ℕ) → i ≤ length S → Periodic (suc (length S)) (after i g x) → Periodic (suc (length S)) (after (length S) g x)
      at i l p = subst (λ (y : Datum). Periodic (suc (length S)) y) (sym (after_split i (length S) x l)) (later (suc (length S)) (length S - i) (after i g x) p)

  -- ---- the least of what follows

  abbrev pub NotAbove : Datum → Datum → Type 0
  NotAbove x y = is_gt (datum_cmp x y) ≡ false

  lesser_cases : (x y : Datum) → ((lesser x y ≡ x) × NotAbove x y) ⊎ ((lesser x y ≡ y) × NotAbove y x)
  lesser_cases x y = by (datum_cmp y x) refl
    where
      by : (o : Ordering) → datum_cmp y x ≡ o → ((cond (is_lt o) y x ≡ x) × NotAbove x y) ⊎ ((cond (is_lt o) y x ≡ y) × NotAbove y x)
      by Less e = inr (refl, ap is_gt e)
      by Equal e = inl (refl, ap is_gt (datum_total.antisymm x y ∙ ap ordering_reverse e))
      by Greater e = inl (refl, ap is_gt (datum_total.antisymm x y ∙ ap ordering_reverse e))

  itself : (x : Datum) → NotAbove x x
  itself x = ap is_gt (tied_itself datum_total x)

  pub is_one : (n : ℕ) (y : Datum) → (i : ℕ) × (i ≤ n) × (least_after n g y ≡ after i g y)
  is_one zero y = (zero, omega arith, refl)
  is_one (suc n) y =
      elim (lesser_cases y (least_after n g (g y))) [
        | inl h ↦ (zero, omega arith, h.0)
        | inr h ↦ let r = is_one n (g y) in let l : r.0 ≤ n = r.1 in (suc r.0, omega (arith, l), h.0 ∙ r.2)
      ]

  pub below_each : (n i : ℕ) (y : Datum) → i ≤ n → NotAbove (least_after n g y) (after i g y)
  below_each zero zero y h = itself y
  below_each zero (suc i) y h = absurd (omega arith)
  below_each (suc n) zero y h =
      elim (lesser_cases y (least_after n g (g y))) [
        | inl c ↦ ap (λ z. is_gt (datum_cmp z y)) c.0 ∙ itself y
        | inr c ↦ ap (λ z. is_gt (datum_cmp z y)) c.0 ∙ c.1
      ]
  below_each (suc n) (suc i) y h =
      elim (lesser_cases y (least_after n g (g y))) [
        | inl c ↦ ap (λ z. is_gt (datum_cmp z (after i g (g y)))) c.0 ∙ upto datum_total y (least_after n g (g y)) (after i g (g y)) c.1 (below_each n i (g y) (omega arith))
        | inr c ↦ ap (λ z. is_gt (datum_cmp z (after i g (g y)))) c.0 ∙ below_each n i (g y) (omega arith)
      ]

  pub both_not_above : (x y : Datum) → NotAbove x y → NotAbove y x → x ≡ y
  both_not_above x y a b = by (datum_cmp x y) refl
    where
      by : (o : Ordering) → datum_cmp x y ≡ o → x ≡ y
      by Less e = absurd (both_ways (is_gt (datum_cmp y x)) b (ap is_gt (datum_total.antisymm y x ∙ ap ordering_reverse e)))
      by Equal e = datum_exact x y e
      by Greater e = absurd (both_ways (is_gt (datum_cmp x y)) a (ap is_gt e))

  pub same_least : (n : ℕ) (y : Datum) → Periodic (suc n) y → least_after n g (g y) ≡ least_after n g y
  same_least n y p = both_not_above (least_after n g (g y)) (least_after n g y) from_next from_this
    where
      reaches : (i : ℕ) → i ≤ n → NotAbove (least_after n g (g y)) (after i g y)
      reaches zero h = subst (λ (z : Datum). NotAbove (least_after n g (g y)) z) (sym (after_split 1 p.period y p.some) ∙ p.again) (below_each n (p.period - 1) (g y) (let f = p.few in omega (arith, f)))
      reaches (suc i) h = below_each n i (g y) (omega arith)

      from_next : NotAbove (least_after n g (g y)) (least_after n g y)
      from_next = let r = is_one n y in subst (λ (z : Datum). NotAbove (least_after n g (g y)) z) (sym r.2) (reaches r.0 r.1)

      from_this : NotAbove (least_after n g y) (least_after n g (g y))
      from_this = let r = is_one n (g y) in subst (λ (z : Datum). NotAbove (least_after n g y) z) (sym r.2) (at r.0 r.1)
        where
          at : (i : ℕ) → i ≤ n → NotAbove (least_after n g y) (after i g (g y))
          at i h =
              elim (cases_lt i n) [
                | inl l ↦ below_each n (suc i) y (omega arith)
                | inr l ↦
                    let same : i ≡ n = omega arith in
                    let few = p.few in
                    let back : after (suc n) g y ≡ after (suc n - p.period) g y = after_split p.period (suc n) y p.few ∙ ap (after (suc n - p.period) g) p.again in
                    let some = p.some in
                    subst (λ (z : Datum). NotAbove (least_after n g y) z) (sym back ∙ ap (λ k. after k g (g y)) (sym same)) (below_each n (suc n - p.period) y (omega arith))
              ]

-- The end of the walk from x is that of the walk from the value after x.
pub same_end : (g : Datum → Datum) (S : List Datum) → ((x : Datum) → among S x ≡ false → g x ≡ x) → (x : Datum)
    → least_after (length S) g (after (length S) g (g x)) ≡ least_after (length S) g (after (length S) g x)
same_end g S stays x = ap (least_after (length S) g) (after_next g (length S) x) ∙ same_least g (length S) (after (length S) g x) (comes_round g S stays x)
