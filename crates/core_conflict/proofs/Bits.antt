-- Bits of a set, one for each spot.
use Rattle.std.proofs.Common.{◌≡◌, ◌∙◌, ap, ℕ, ◌*◌, ◌/◌, ◌^◌, ◌%◌, ◌<◌, Bool, true, false, refl, sym, arith}
use Rattle.std.specs.Prelude.{◌==◌, ◌&&◌, ◌||◌, max, min}
use Rattle.std.specs.Int.{bit_at, w128}
use Rattle.std.specs.Int.RustNames.{bit_and, bit_or}
use Rattle.std.proofs.lemmas.Bool.{and_parts, eq-eqb, eqb-true, eqb-false}
use Rattle.std.proofs.lemmas.Nat.Bits.{bit_at_and, bit_at_set_same, bit_at_set_other, bit_at-zero}
use Rattle.def_chase.proofs.Bools.{and-false, both, not_both, or_left, or_right}
use Rattle.core_conflict.specs.Signatures.{AreApart, IsWithin, has_spot}
use Rattle.core_conflict.specs.declared.signatures.Signature.{Signature}

or_true : (a : Bool) → (a || true) ≡ true
or_true true = refl
or_true false = refl

or_false : (a : Bool) → (a || false) ≡ a
or_false true = refl
or_false false = refl

-- A bit of a number with one more.
bit_of_more : (n k r : ℕ) → k < 128 → (bit_at (bit_or n (1 * 2 ^ k % 2 ^ 128)) r == 1) ≡ ((bit_at n r == 1) || (k == r))
bit_of_more n k r lt = by (k == r) refl where
  by : (b : Bool) → (k == r) ≡ b → (bit_at (bit_or n (1 * 2 ^ k % 2 ^ 128)) r == 1) ≡ ((bit_at n r == 1) || (k == r))
  by true e = let same : k ≡ r = eqb-true k r e in rw (e, or_true (bit_at n r == 1), ← same, bit_at_set_same w128 n k lt) refl
  by false e = rw (e, or_false (bit_at n r == 1), bit_at_set_other w128 n k lt r (λ same. eqb-false k r e (sym same))) refl

-- A bit stays, and the one more is there.
bit_still : (n k r : ℕ) → k < 128 → (bit_at n r == 1) ≡ true → (bit_at (bit_or n (1 * 2 ^ k % 2 ^ 128)) r == 1) ≡ true
bit_still n k r lt e = bit_of_more n k r lt ∙ or_left (bit_at n r == 1) (k == r) e

bit_there : (n k : ℕ) → k < 128 → (bit_at (bit_or n (1 * 2 ^ k % 2 ^ 128)) k == 1) ≡ true
bit_there n k lt = bit_of_more n k k lt ∙ or_right (bit_at n k == 1) (k == k) (eq-eqb k k refl)

-- The set with one more spot.
abbrev pub with_spot : Signature → ℕ → Signature
with_spot s k = record { low = bit_or s.low (1 * 2 ^ (k / 128) % 2 ^ 128); high = bit_or s.high (1 * 2 ^ (k % 128) % 2 ^ 128) }

pub with_more : (s : Signature) (k : ℕ) → k / 128 < 128 → k % 128 < 128 → IsWithin s (with_spot s k)
with_more s k l m i e =
    let parts = and_parts (bit_at s.low (i / 128) == 1) (bit_at s.high (i % 128) == 1) e in
    both (bit_at (with_spot s k).low (i / 128) == 1) (bit_at (with_spot s k).high (i % 128) == 1) (bit_still s.low (k / 128) (i / 128) l parts.0) (bit_still s.high (k % 128) (i % 128) m parts.1)

pub with_there : (s : Signature) (k : ℕ) → k / 128 < 128 → k % 128 < 128 → has_spot (with_spot s k) k ≡ true
with_there s k l m = both (bit_at (with_spot s k).low (k / 128) == 1) (bit_at (with_spot s k).high (k % 128) == 1) (bit_there s.low (k / 128) l) (bit_there s.high (k % 128) m)

-- Two numbers without a bit in common.
no_bit : (a b i : ℕ) → bit_and a b ≡ 0 → (bit_at a i == 1) ≡ true → (bit_at b i == 1) ≡ false
no_bit a b i e h = not_both (bit_at b i == 1) (λ j.
    let one : bit_at a i ≡ 1 = eqb-true (bit_at a i) 1 h in
    let two : bit_at b i ≡ 1 = eqb-true (bit_at b i) 1 j in
    let none : min (bit_at a i) (bit_at b i) ≡ 0 = sym (bit_at_and a b i) ∙ ap (λ n. bit_at n i) e ∙ bit_at-zero i in
    let both' : min (bit_at a i) (bit_at b i) ≡ 1 = λ k. min (one k) (two k) in
    let no : ◌≡◌ {A = ℕ} 1 0 = sym both' ∙ none in absurd (omega (arith, no)))

-- Sets that have no low bit in common, or no high one, are apart.
pub apart_low : (s t : Signature) → bit_and s.low t.low ≡ 0 → AreApart s t
apart_low s t l k e =
    let parts = and_parts (bit_at s.low (k / 128) == 1) (bit_at s.high (k % 128) == 1) e in
    ap (λ b. b && (bit_at t.high (k % 128) == 1)) (no_bit s.low t.low (k / 128) l parts.0)

pub apart_high : (s t : Signature) → bit_and s.high t.high ≡ 0 → AreApart s t
apart_high s t h k e =
    let parts = and_parts (bit_at s.low (k / 128) == 1) (bit_at s.high (k % 128) == 1) e in
    ap (λ b. (bit_at t.low (k / 128) == 1) && b) (no_bit s.high t.high (k % 128) h parts.1) ∙ and-false (bit_at t.low (k / 128) == 1)
