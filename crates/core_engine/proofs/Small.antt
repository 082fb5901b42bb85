-- Small facts on the front of a list, and on two truth values.
use Rattle.std.proofs.Common.{◌≡◌, ap, refl, ℕ, zero, suc, Bool, true, ◌&&◌, List, [], ◌∷◌, ◌++◌, length, take, arith}

pub front : {A : Type 0} (xs ys : List A) (n : ℕ) → length xs ≡ n → take n (xs ++ ys) ≡ xs
front [] [] zero h = refl
front [] (y ∷ ys) zero h = refl
front [] ys (suc n) h = absurd (omega (arith, h))
front (x ∷ xs) ys zero h = absurd (omega (arith, h))
front (x ∷ xs) ys (suc n) h = ap (λ zs. x ∷ zs) (front xs ys n (omega (arith, h)))

pub both_true : (a b : Bool) → a ≡ true → b ≡ true → (a && b) ≡ true
both_true a b e f = λ i. e i && f i
