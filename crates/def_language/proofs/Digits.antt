-- Numbers that digits write, up to a greatest.
use Rattle.std.proofs.Common.{◌≡◌, ℕ, ◌+◌, ◌-◌, ◌*◌, ◌^◌, ◌<◌, List, [], ◌∷◌, sym, ap, ◌∙◌, arith, drop, length, get_or, drop-cons}
use Rattle.std.proofs.Math.Numerals.{add-one}
use Rattle.std.proofs.lemmas.List.{drop_all}
use Rattle.std.specs.Prelude.{min}
use Rattle.def_language.specs.Numbers.{value_after}

pub cons_at : (xs : List ℕ) (i : ℕ) → i < length xs → drop i xs ≡ get_or xs i 0 ∷ drop (i + 1) xs
cons_at xs i lt = rw add-one (drop-cons xs i 0 lt)

abbrev cap : ℕ → ℕ
cap n = min n (2 ^ 64 - 1)

cap_more : (m n d : ℕ) → cap m ≡ cap n → cap (m * 10 + d) ≡ cap (n * 10 + d)
cap_more m n d e = omega arith

pub same_cap : (xs : List ℕ) (m n : ℕ) → min m (2 ^ 64 - 1) ≡ min n (2 ^ 64 - 1) → min (value_after m xs) (2 ^ 64 - 1) ≡ min (value_after n xs) (2 ^ 64 - 1)
unfolding value_after
same_cap [] m n e = e
same_cap (x ∷ xs) m n e = same_cap xs (m * 10 + (x - 48)) (n * 10 + (x - 48)) (cap_more m n (x - 48) e)

pub next : (xs : List ℕ) (i v w total : ℕ) → i < length xs → min (value_after v (drop i xs)) (2 ^ 64 - 1) ≡ total
    → w ≡ min (min (v * 10) (2 ^ 64 - 1) + (get_or xs i 0 - 48)) (2 ^ 64 - 1) → min (value_after w (drop (i + 1) xs)) (2 ^ 64 - 1) ≡ total
unfolding value_after
next xs i v w total lt e step =
    let whole : min (value_after v (get_or xs i 0 ∷ drop (i + 1) xs)) (2 ^ 64 - 1) ≡ total = ap (λ ys. min (value_after v ys) (2 ^ 64 - 1)) (sym (cons_at xs i lt)) ∙ e in
    same_cap (drop (i + 1) xs) w (v * 10 + (get_or xs i 0 - 48)) (omega arith) ∙ whole

pub ends : (xs : List ℕ) (i v total : ℕ) → i ≡ length xs → v < 2 ^ 64 → min (value_after v (drop i xs)) (2 ^ 64 - 1) ≡ total → v ≡ total
unfolding value_after
ends xs i v total e fits h =
    let none : drop i xs ≡ [] = drop_all i xs (omega arith) in
    let k : min v (2 ^ 64 - 1) ≡ total = ap (λ ys. min (value_after v ys) (2 ^ 64 - 1)) (sym none) ∙ h in
    omega arith
