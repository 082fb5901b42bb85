-- The byte of a gate, and what stands after it.
use Rattle.std.proofs.Common.{◌≡◌, ℕ, ◌-◌, ◌≤◌, ◌==◌, ◌⊎◌, inl, inr, ap, refl, ◌∙◌, sym, List, [], ◌∷◌, length, take, drop, get_or, Bool, true, false, arith}
use Rattle.std.proofs.Math.Seq.{take-length}
use Rattle.std.proofs.lemmas.Bool.{both_ways, eqb-true, eq-eqb}
use Rattle.base_roll.specs.Rolls.{IsClosed}

-- it is open, or closed
pub decided : (x : ℕ) → (x ≡ 1) ⊎ (x ≡ 1 → ⊥)
decided x = by (x == 1) refl
  where
    by : (b : Bool) → (x == 1) ≡ b → (x ≡ 1) ⊎ (x ≡ 1 → ⊥)
    by true e = inl (eqb-true x 1 e)
    by false e = inr (λ f. both_ways (x == 1) e (eq-eqb x 1 f))

pub no_closed : ◌≡◌ {A = ℕ} 0 1 → ⊥
no_closed e = omega arith

pub shut : (rest x : List ℕ) → IsClosed rest → rest ≡ 1 ∷ x → ⊥
shut rest x c e = c.3 (ap (λ xs. get_or xs 0 0) (sym c.2 ∙ e))

pub first_byte : (bytes : List ℕ) → 1 ≤ length bytes → bytes ≡ get_or bytes 0 0 ∷ take (length bytes - 1) (drop 1 bytes)
first_byte [] l = absurd (omega arith)
first_byte (x ∷ xs) l =
    let count : length (x ∷ xs) - 1 ≡ length xs = omega arith in
    let others : take (length (x ∷ xs) - 1) (drop 1 (x ∷ xs)) ≡ xs = ap (λ k. take k xs) count ∙ take-length xs in
    λ i. x ∷ sym others i

pub split_byte : (rest : List ℕ) → 1 ≤ length rest → get_or rest 0 0 ≡ 1 → rest ≡ 1 ∷ take (length rest - 1) (drop 1 rest)
split_byte rest l one = first_byte rest l ∙ ap (λ x. x ∷ take (length rest - 1) (drop 1 rest)) one
