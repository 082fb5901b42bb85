-- Bits of a set, one for each relation.
use Rattle.std.proofs.Common.{◌≡◌, ℕ, zero, suc, ◌*◌, ◌^◌, ◌%◌, ◌<◌, Bool, true, false, refl, sym, arith}
use Rattle.std.specs.Prelude.{◌==◌, ◌||◌, max}
use Rattle.std.specs.Int.{bit_at, w128}
use Rattle.std.specs.Int.RustNames.{bit_or}
use Rattle.std.proofs.lemmas.Bool.{eqb-true, eqb-false}
use Rattle.std.proofs.lemmas.Nat.Bits.{bit_at_or, bit_at_set_same, bit_at_set_other}

greater : (a b : ℕ) → a < 2 → b < 2 → (max a b == 1) ≡ ((a == 1) || (b == 1))
greater zero zero l m = refl
greater zero (suc zero) l m = refl
greater (suc zero) zero l m = refl
greater (suc zero) (suc zero) l m = refl
greater (suc (suc a)) b l m = absurd (omega arith)
greater zero (suc (suc b)) l m = absurd (omega arith)
greater (suc zero) (suc (suc b)) l m = absurd (omega arith)

-- a bit of two numbers joined
pub bit_of_both : (m n r : ℕ) → (bit_at (bit_or m n) r == 1) ≡ ((bit_at m r == 1) || (bit_at n r == 1))
bit_of_both m n r = rw (bit_at_or m n r) (greater (bit_at m r) (bit_at n r) (omega arith) (omega arith))

pub or_true : (a : Bool) → (a || true) ≡ true
or_true true = refl
or_true false = refl

pub or_false : (a : Bool) → (a || false) ≡ a
or_false true = refl
or_false false = refl

-- a bit of a number with one more
pub bit_of_more : (n k r : ℕ) → k < 128 → (bit_at (bit_or n (1 * 2 ^ k % 2 ^ 128)) r == 1) ≡ ((bit_at n r == 1) || (k == r))
bit_of_more n k r lt = by (k == r) refl where
  by : (b : Bool) → (k == r) ≡ b → (bit_at (bit_or n (1 * 2 ^ k % 2 ^ 128)) r == 1) ≡ ((bit_at n r == 1) || (k == r))
  by true e = let same : k ≡ r = eqb-true k r e in rw (e, or_true (bit_at n r == 1), ← same, bit_at_set_same w128 n k lt) refl
  by false e = rw (e, or_false (bit_at n r == 1), bit_at_set_other w128 n k lt r (λ same. eqb-false k r e (sym same))) refl
