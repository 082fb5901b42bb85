-- The session at the front of an input is no longer than the input.
use Rattle.std.specs.Prelude.{◌≡◌, ◌≤◌, ℕ, Bool, true, false, if◌then◌else◌, List, [], ◌∷◌, ◌++◌, length, take}
use Rattle.std.proofs.Common.{ap, arith}
use Rattle.std.specs.List.{concat}
use Rattle.std.proofs.lemmas.List.{length-append}
use Rattle.audit_claims.specs.Parts.{before, from, is_end, lines_in, session_in}
use Rattle.audit_claims.proofs.Lined.{whole}

no_more : (test : List ℕ → Bool) (ls : List (List ℕ)) → length (concat (before test ls) ++ concat (take 1 (from test ls))) ≤ length (concat ls)
no_more test [] = omega arith
no_more test (l ∷ ls) = by (no_more test ls) (test l)
  where
    by : length (concat (before test ls) ++ concat (take 1 (from test ls))) ≤ length (concat ls) → (b : Bool)
        → length (concat (if b then [] else l ∷ before test ls) ++ concat (take 1 (if b then l ∷ ls else from test ls))) ≤ length (l ++ concat ls)
    by rest true = omega (arith, length-append l [], length-append l (concat ls))
    by rest false =
        let front = concat (before test ls) in
        let last = concat (take 1 (from test ls)) in
        omega (arith, rest, length-append front last, length-append l front, length-append (l ++ front) last, length-append l (concat ls))

pub short : (input front : List ℕ) → front ≡ session_in input → length input ≤ 16777216 → length front ≤ 16777216
short input front is few = omega (arith, ap length is, no_more is_end (lines_in input), ap length (whole input), few)
