-- What is left of a list from a place on.
use Rattle.std.proofs.Common.{◌≡◌, ◌∙◌, ap, refl, sym, ℕ, zero, suc, ◌+◌, ◌-◌, ◌<◌, ◌≤◌, length, drop, get_or, arith, List, [], ◌∷◌}
use Rattle.std.proofs.Math.Seq.{drop-cons}

-- The item there, and what is left from the next place on.
pub next_left : {X : Type 0} (xs : List X) (i : ℕ) (x : X) → i < length xs → x ≡ get_or xs i x → drop i xs ≡ x ∷ drop (i + 1) xs
next_left xs i x lt is =
    let more : suc i ≡ i + 1 = omega arith in
    drop-cons xs i x lt ∙ ap (λ y. y ∷ drop (suc i) xs) (sym is) ∙ ap (λ k. x ∷ drop k xs) more

drop_one_more : {X : Type 0} (k : ℕ) (xs : List X) → drop 1 (drop k xs) ≡ drop (suc k) xs
drop_one_more zero [] = refl
drop_one_more zero (x ∷ xs) = refl
drop_one_more (suc k) [] = refl
drop_one_more (suc k) (x ∷ xs) = drop_one_more k xs

one_less : {X : Type 0} (xs : List X) → 1 ≤ length xs → suc (length (drop 1 xs)) ≡ length xs
one_less [] h = absurd (omega (arith, h))
one_less (x ∷ xs) h = refl

-- One less of what is left, where more than so many are.
pub sinks : {X : Type 0} (all now next : List X) (h : ℕ) → h + 2 ≤ length now → length now ≤ length all → now ≡ drop (length all - length now) all → next ≡ drop 1 now
    → (h + 1 ≤ length next) × (length next ≤ length all) × (next ≡ drop (length all - length next) all)
sinks all now next h a b s e =
    let some : 1 ≤ length now = omega (arith, a) in
    let l : suc (length next) ≡ length now = ap (λ ys. suc (length ys)) e ∙ one_less now some in
    let k : suc (length all - length now) ≡ length all - length next = omega (arith, b, l) in
    let first : h + 1 ≤ length next = omega (arith, a, l) in
    let second : length next ≤ length all = omega (arith, b, l) in
    (first, second, e ∙ (ap (λ ys. drop 1 ys) s ∙ (drop_one_more (length all - length now) all ∙ ap (λ n. drop n all) k)))
