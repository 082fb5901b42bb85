-- What an answer makes of the list of answers.
use Rattle.std.proofs.Common.{◌≡◌, ◌∙◌, ap, refl, ℕ, suc, zero, ◌+◌, ◌<◌, List, [], ◌∷◌, ◌++◌, map, take, length, arith, add-one}
use Rattle.std.specs.Prelude.{slice_set}

set_at : {A B : Type 0} (f : A → B) (xs : List A) (n : ℕ) (c : A) → n < length xs → map f (slice_set (take (suc n) xs) n c) ≡ take n (map f xs) ++ f c ∷ []
set_at f [] n c h = absurd (omega (arith, h))
set_at f (x ∷ xs) zero c h = refl
set_at f (x ∷ xs) (suc n) c h = let l : n < length xs = omega (arith, h) in λ i. f x ∷ set_at f xs n c l i

-- The item in the last place of those that are kept.
pub set_last : {A B : Type 0} (f : A → B) (xs ys zs : List A) (n : ℕ) (c : A) → n < length xs → ys ≡ take (n + 1) xs → zs ≡ slice_set ys n c → map f zs ≡ take n (map f xs) ++ f c ∷ []
set_last f xs ys zs n c h e g =
    ap (map f) (g ∙ ap (λ us. slice_set us n c) (e ∙ ap (λ k. take k xs) (add-one n))) ∙ set_at f xs n c h
