-- What is gathered from the items of a list one by one, where what was gathered stays.
use Rattle.std.proofs.Common.{◌≡◌, ◌∙◌, ap, refl, sym, subst, ℕ, suc, ◌+◌, ◌<◌, Bool, true, ◌&&◌, List, [], ◌∷◌, map, drop, length, get_or, add-one, drop-cons}
use Rattle.std.specs.List.{list_all}
use Rattle.def_chase.proofs.Bools.{both}

pub next_drop : {K : Type 0} (xs : List K) (i : ℕ) (x : K) → i < length xs → x ≡ get_or xs i x → drop i xs ≡ x ∷ drop (i + 1) xs
next_drop xs i x l e = drop-cons xs i x l ∙ ap (λ y. y ∷ drop (suc i) xs) (sym e) ∙ ap (λ k. x ∷ drop k xs) (sym (add-one i))

-- Nothing is left.
pub all_gone : {K : Type 0} (xs : List K) → drop (length xs) xs ≡ []
all_gone [] = refl
all_gone (x ∷ xs) = all_gone xs

-- What has what is left, and all that was gathered, has all.
abbrev pub Gathers : {S K X : Type 0} (within : S → S → Type 0) (has : S → X → Bool) (f : K → X) → List K → ℕ → S → Type 0
Gathers {S} within has f xs i s = (t : S) → within s t → list_all (has t) (map f (drop i xs)) ≡ true → list_all (has t) (map f xs) ≡ true

module _ {S K X : Type 0} (within : S → S → Type 0) (has : S → X → Bool) (f : K → X)
    (more : (r s t : S) → within r s → within s t → within r t) (still : (s t : S) (x : X) → within s t → has s x ≡ true → has t x ≡ true) where
  pub begins : (xs : List K) (s : S) → Gathers within has f xs 0 s
  begins xs s t w e = e

  -- With one item more.
  pub goes_on : (xs : List K) (i : ℕ) (x : K) (s t : S) → i < length xs → x ≡ get_or xs i x → within s t → has t (f x) ≡ true → Gathers within has f xs i s → Gathers within has f xs (i + 1) t
  goes_on xs i x s t l e w h g u v r =
      g u (more s t u w v) (subst (λ ys. list_all (has u) (map f ys) ≡ true) (sym (next_drop xs i x l e)) (both (has u (f x)) (list_all (has u) (map f (drop (i + 1) xs))) (still t u (f x) v h) r))

  -- All is gathered in the end.
  pub ends : (xs : List K) (i : ℕ) (s : S) → i ≡ length xs → within s s → Gathers within has f xs i s → list_all (has s) (map f xs) ≡ true
  ends xs i s e w g = g s w (ap (λ k. list_all (has s) (map f (drop k xs))) e ∙ ap (λ ys. list_all (has s) (map f ys)) (all_gone xs))
