-- Whether one of a range of numbers passes a test.
use Rattle.std.proofs.Common.{◌≡◌, ◌∙◌, ℕ, zero, suc, ◌+◌, ◌<◌, ◌≤◌, Bool, true, false, refl, ap, arith, ◌⊎◌, inl, inr}
use Rattle.std.specs.Prelude.{◌||◌}
use Rattle.std.specs.List.{list_any, range_with_len}
use Rattle.std.proofs.lemmas.Bool.{cases_lt}

-- one of a range passes
pub any_in_range : (p : ℕ → Bool) (a n r : ℕ) → a ≤ r → r < a + n → p r ≡ true → list_any p (range_with_len a n) ≡ true
any_in_range p a zero r low high e = absurd (omega arith)
any_in_range p a (suc n) r low high e = by (p a) refl (cases_lt a r) (λ less. any_in_range p (a + 1) n r (omega arith) (omega arith) e) where
  by : (b : Bool) → p a ≡ b → (a < r) ⊎ (r ≤ a) → (a < r → list_any p (range_with_len (a + 1) n) ≡ true) → (p a || list_any p (range_with_len (a + 1) n)) ≡ true
  by true f c others = rw f refl
  by false f (inl less) others = rw f (others less)
  by false f (inr least) others = let same : a ≡ r = omega arith in rw (ap p same ∙ e) refl

-- none of a range passes
pub none_in_range : (p : ℕ → Bool) (a n : ℕ) → ((r : ℕ) → a ≤ r → r < a + n → p r ≡ false) → list_any p (range_with_len a n) ≡ false
none_in_range p a zero none = refl
none_in_range p a (suc n) none = rw (none a (omega arith) (omega arith), none_in_range p (a + 1) n (λ r low high. none r (omega arith) (omega arith))) refl
