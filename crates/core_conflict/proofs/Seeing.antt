-- The first own writes of an attempt.
use Rattle.std.proofs.Common.{◌≡◌, ◌∙◌, ap, refl, ℕ, zero, suc, ◌-◌, ◌≤◌, List, [], ◌∷◌, ◌++◌, map, take, drop, length, arith}
use Rattle.base_types.specs.declared.updates.Write.{Write}
use Rattle.base_types.specs.Meanings.{change_of}
use Rattle.def_chase.specs.Repository.{Change}

first_of : (n : ℕ) (ws : List Write) → map change_of (take n ws) ≡ take n (map change_of ws)
first_of zero ws = refl
first_of (suc n) [] = refl
first_of (suc n) (w ∷ ws) = ap (λ (cs : List Change). change_of w ∷ cs) (first_of n ws)

-- Seen from the first write up to a place.
pub seen_first : (n : ℕ) (ws : List Write) → [] ++ map change_of (take n ws) ≡ take n (map change_of ws)
seen_first n ws = first_of n ws

-- Seen on from one place to another.
pub seen_on : (a b : ℕ) (ws : List Write) → a ≤ b → take a (map change_of ws) ++ map change_of (take (b - a) (drop a ws)) ≡ take b (map change_of ws)
seen_on zero b ws h = let same : b - 0 ≡ b = omega arith in ap (λ n. map change_of (take n ws)) same ∙ first_of b ws
seen_on (suc a) zero ws h = absurd (omega arith)
seen_on (suc a) (suc b) [] h = none (suc b - suc a)
  where
    none : (n : ℕ) → map change_of (take n []) ≡ []
    none zero = refl
    none (suc n) = refl
seen_on (suc a) (suc b) (w ∷ ws) h =
    let same : suc b - suc a ≡ b - a = omega arith in
    ap (λ (cs : List Change). change_of w ∷ cs) (ap (λ n. take a (map change_of ws) ++ map change_of (take n (drop a ws))) same ∙ seen_on a b ws (omega arith))

-- Where there are no more, the first of a greater number are all.
pub seen_most : (n : ℕ) (ws : List Write) → length ws ≤ n → take (length ws) (map change_of ws) ≡ take n (map change_of ws)
seen_most zero [] h = refl
seen_most zero (w ∷ ws) h = absurd (omega arith)
seen_most (suc n) [] h = refl
seen_most (suc n) (w ∷ ws) h = ap (λ (cs : List Change). change_of w ∷ cs) (seen_most n ws (omega arith))
