-- What an answer makes of the list of answers.
use Rattle.std.proofs.Common.{◌≡◌, ◌∙◌, ap, refl, ℕ, suc, zero, ◌+◌, ◌<◌, List, [], ◌∷◌, ◌++◌, map, take, length, arith, add-one}
use Rattle.std.specs.Prelude.{slice_set}
use Rattle.std.proofs.lemmas.List.{map-append}

taken_first : {A B : Type 0} (f : A → B) (xs : List A) (n : ℕ) → map f (take n xs) ≡ take n (map f xs)
taken_first f xs zero = refl
taken_first f [] (suc n) = refl
taken_first f (x ∷ xs) (suc n) = ap (λ ys. f x ∷ ys) (taken_first f xs n)

-- One more after the first n.
pub one_more_after : {A B : Type 0} (f : A → B) (xs ys zs : List A) (n m : ℕ) (c : A) → n ≡ m → ys ≡ take n xs → zs ≡ ys ++ c ∷ [] → map f zs ≡ take m (map f xs) ++ f c ∷ []
one_more_after f xs ys zs n m c k e g =
    ap (map f) (g ∙ ap (λ us. us ++ c ∷ []) e) ∙ map-append f (take n xs) (c ∷ []) ∙ ap (λ us. us ++ f c ∷ []) (taken_first f xs n ∙ ap (λ j. take j (map f xs)) k)

set_at : {A : Type 0} (xs : List A) (n : ℕ) (c : A) → n < length xs → slice_set (take (suc n) xs) n c ≡ take n xs ++ c ∷ []
set_at [] n c h = absurd (omega (arith, h))
set_at (x ∷ xs) zero c h = refl
set_at (x ∷ xs) (suc n) c h = let l : n < length xs = omega (arith, h) in λ i. x ∷ set_at xs n c l i

-- The item in the last place of those that are kept.
pub set_last : {A : Type 0} (xs ys zs : List A) (n : ℕ) (c : A) → n < length xs → ys ≡ take (n + 1) xs → zs ≡ slice_set ys n c → zs ≡ take n xs ++ c ∷ []
set_last xs ys zs n c h e g = g ∙ ap (λ us. slice_set us n c) (e ∙ ap (λ k. take k xs) (add-one n)) ∙ set_at xs n c h
