-- Lists in pieces: the part of a list from a place on, in parts.
use Rattle.std.proofs.Common.{◌≡◌, ℕ, ◌+◌, ◌-◌, ◌≤◌, List, ◌++◌, length, take, drop, sym, ap, ◌∙◌, subst, arith, take-append-drop, length-drop}
use Rattle.std.proofs.lemmas.List.{take-take, drop-take, take_rest}

-- the first m and the n after them
pub take-more : (m n : ℕ) (l : List ℕ) → take (m + n) l ≡ take m l ++ take n (drop m l)
take-more m n l =
    let within : m ≤ m + n = omega arith in
    sym (take-append-drop m (take (m + n) l))
    ∙ ap (λ x. x ++ drop m (take (m + n) l)) (take-take m (m + n) l within)
    ∙ ap (λ x. take m l ++ x) (drop-take m n l)

-- the front of `&l[i..]` after the first i
pub take-slice : (i n : ℕ) (l : List ℕ)
    → take i l ++ take n (take (length l - i) (drop i l)) ≡ take (i + n) l
take-slice i n l = ap (λ x. take i l ++ take n x) (take_rest l i) ∙ sym (take-more i n l)

-- a part of `&l[i..]` ends within l
pub within-slice : (i n : ℕ) (l : List ℕ)
    → i ≤ length l → n ≤ length (take (length l - i) (drop i l)) → i + n ≤ length l
within-slice i n l from to =
    let short : n ≤ length (drop i l) = subst (λ x. n ≤ length x) (take_rest l i) to in
    omega (arith, length-drop i l)
