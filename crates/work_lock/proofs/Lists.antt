-- Places in lists.
use Rattle.std.proofs.Common.{◌≡◌, ◌≢◌, ◌⊎◌, inl, inr, ⊎_elim, ℕ, zero, suc, ◌<◌, List, [], ◌∷◌, ◌++◌, length, set, sym, refl, ap, subst, arith}
use mathlib.Core.Option.{some, some-injective, some-ne-none}
use lib.ListN.{get_elem?}
use Rattle.atomic_table.proofs.Lists.{at_set}

pub within : {A : Type 0} (l : List A) (j : ℕ) (a : A) → get_elem? l j ≡ some a → j < length l
within [] j a e = absurd (some-ne-none a (sym e))
within (x ∷ l) zero a e = omega arith
within (x ∷ l) (suc j) a e = let t = within l j a e in omega arith

module _ {A : Type 0} where
  pub at_end : (l : List A) (a b : A) (j : ℕ) → get_elem? (l ++ a ∷ []) j ≡ some b → (get_elem? l j ≡ some b) ⊎ ((j ≡ length l) × (a ≡ b))
  at_end [] a b zero e = inr (refl, some-injective a b e)
  at_end [] a b (suc j) e = absurd (some-ne-none b (sym e))
  at_end (x ∷ l) a b zero e = inl e
  at_end (x ∷ l) a b (suc j) e = ⊎_elim (λ h. inl h) (λ (h : (j ≡ length l) × (a ≡ b)). let k = h.0 in inr (omega arith, h.1)) (at_end l a b j e)

  pub set_comm : (l : List A) (i j : ℕ) (a b : A) → i ≢ j → set (set l i a) j b ≡ set (set l j b) i a
  set_comm [] i j a b n = refl
  set_comm (x ∷ l) zero zero a b n = absurd (n refl)
  set_comm (x ∷ l) zero (suc j) a b n = refl
  set_comm (x ∷ l) (suc i) zero a b n = refl
  set_comm (x ∷ l) (suc i) (suc j) a b n = λ k. x ∷ set_comm l i j a b (λ e. n (ap suc e)) k

  pub there_is : (l : List A) (j : ℕ) → j < length l → (a : A) × (get_elem? l j ≡ some a)
  there_is [] j h = absurd (omega arith)
  there_is (x ∷ l) zero h = (x, refl)
  there_is (x ∷ l) (suc j) h = there_is l j (omega arith)

  middle : (xs ys : List A) (x : A) → get_elem? (xs ++ x ∷ ys) (length xs) ≡ some x
  middle [] ys x = refl
  middle (z ∷ xs) ys x = middle xs ys x

  pub in_middle : (xs ys all : List A) (x : A) → xs ++ x ∷ ys ≡ all → get_elem? all (length xs) ≡ some x
  in_middle xs ys all x e = subst (λ (l : List A). get_elem? l (length xs) ≡ some x) e (middle xs ys x)

  -- what holds of the element set and of the others holds of all
  pub all_set : (K : ℕ → A → Type 0) (vs : List A) (me : ℕ) (w : A) → K me w → ((j : ℕ) (d : A) → j ≢ me → get_elem? vs j ≡ some d → K j d)
      → (j : ℕ) (d : A) → get_elem? (set vs me w) j ≡ some d → K j d
  all_set K vs me w mine others j d e = ⊎_elim (λ (t : (j ≡ me) × (w ≡ d)). subst (λ (x : ℕ × A). K x.0 x.1) (λ i. (sym t.0 i, t.1 i)) mine)
      (λ (t : (j ≢ me) × (get_elem? vs j ≡ some d)). others j d t.0 t.1) (at_set vs me j w d e)
