-- The byte at a place of joined bytes, and of bytes after a write.
use Rattle.std.specs.Prelude.{slice_get, nat_le, nat_lt}
use Rattle.std.proofs.Common.{◌≡◌, ℕ, zero, suc, ◌+◌, ◌-◌, ◌<◌, ◌≤◌, ◌⊎◌, inl, inr, ap, refl, ◌∙◌, List, [], ◌∷◌, ◌++◌, length, take, drop, Bool, true, false, ◌&&◌, arith, length-append, length-drop}
use Rattle.std.proofs.lemmas.List.{length-take}
use Rattle.std.proofs.lemmas.Bool.Decides.{nat_tests}
use Rattle.base_devices.specs.Torn.{Range, covers, range_of, written}

pub get_front : (xs ys : List ℕ) (i : ℕ) → i < length xs → slice_get (xs ++ ys) i ≡ slice_get xs i
get_front [] ys i l = absurd (omega arith)
get_front (x ∷ xs) ys zero l = refl
get_front (x ∷ xs) ys (suc i) l = get_front xs ys i (omega arith)

pub get_take : (n : ℕ) (xs : List ℕ) (i : ℕ) → i < n → slice_get (take n xs) i ≡ slice_get xs i
get_take zero xs i l = absurd (omega arith)
get_take (suc n) [] i l = refl
get_take (suc n) (x ∷ xs) zero l = refl
get_take (suc n) (x ∷ xs) (suc i) l = get_take n xs i (omega arith)

pub get_after : (xs ys : List ℕ) (i j : ℕ) → j ≡ length xs + i → slice_get (xs ++ ys) j ≡ slice_get ys i
get_after [] ys i j e = let same : j ≡ i = omega arith in ap (λ k. slice_get ys k) same
get_after (x ∷ xs) ys i zero e = absurd (omega arith)
get_after (x ∷ xs) ys i (suc j) e = get_after xs ys i j (omega arith)

pub get_drop : (n : ℕ) (xs : List ℕ) (i j : ℕ) → j ≡ n + i → slice_get (drop n xs) i ≡ slice_get xs j
get_drop zero xs i j e = let same : i ≡ j = omega arith in ap (λ k. slice_get xs k) same
get_drop (suc n) [] i j e = refl
get_drop (suc n) (x ∷ xs) i zero e = absurd (omega arith)
get_drop (suc n) (x ∷ xs) i (suc j) e = get_drop n xs i j (omega arith)

-- a place that a range does not cover lies before it or after it
pub outside : (r : Range) (i : ℕ) → covers r i ≡ false → (i < r.at) ⊎ (r.at + r.count ≤ i)
outside r i e = by (nat_le r.at i) refl (nat_lt i (r.at + r.count)) refl e
  where
    by : (a : Bool) → nat_le r.at i ≡ a → (b : Bool) → nat_lt i (r.at + r.count) ≡ b → (a && b) ≡ false → (i < r.at) ⊎ (r.at + r.count ≤ i)
    by true p true q f = absurd (cc)
    by true p false q f = inr (grind (arith, nat_tests))
    by false p b q f = inl (grind (arith, nat_tests))

-- and the other way round
pub before_range : (r : Range) (j : ℕ) → j < r.at → covers r j ≡ false
before_range r j l = let a : nat_le r.at j ≡ false = grind (arith, nat_tests) in rw a refl

pub after_range : (r : Range) (j : ℕ) → r.at + r.count ≤ j → covers r j ≡ false
after_range r j l = by (nat_le r.at j)
  where
    past : nat_lt j (r.at + r.count) ≡ false
    past = grind (arith, nat_tests)

    by : (a : Bool) → (a && nat_lt j (r.at + r.count)) ≡ false
    by true = past
    by false = refl

pub written_longer : (at : ℕ) (bytes old : List ℕ) → length old ≤ length (written at bytes old)
written_longer at bytes old =
    omega (arith, length-append (take at old) (bytes ++ drop (at + length bytes) old), length-append bytes (drop (at + length bytes) old), length-take at old, length-drop (at + length bytes) old)

pub written_elsewhere : (at : ℕ) (bytes old : List ℕ) (i : ℕ) → i < length old → covers (range_of at bytes) i ≡ false → slice_get (written at bytes old) i ≡ slice_get old i
written_elsewhere at bytes old i l e = elim (outside (range_of at bytes) i e) [
  | inl before ↦
      let within : i < length (take at old) = omega (arith, length-take at old) in
      get_front (take at old) (bytes ++ drop (at + length bytes) old) i within ∙ get_take at old i before
  | inr after ↦
      let long : length (take at old) ≡ at = omega (arith, length-take at old) in
      get_after (take at old) (bytes ++ drop (at + length bytes) old) (i - at) i (omega arith)
      ∙ get_after bytes (drop (at + length bytes) old) (i - at - length bytes) (i - at) (omega arith)
      ∙ get_drop (at + length bytes) old (i - at - length bytes) i (omega arith)
]
