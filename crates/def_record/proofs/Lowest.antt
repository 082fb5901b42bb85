-- The lowest update that passes a test.
use Rattle.std.proofs.Common.{◌≡◌, ℕ, suc, ◌+◌, sym, refl, ap, ◌∙◌, arith, List, [], ◌∷◌, Some, Bool, true, false}
use Rattle.std.specs.Prelude.{if◌then◌else◌, slice_get}
use Rattle.std.proofs.lemmas.Option.{none-some, same_Some}
use Rattle.def_machine.specs.Machine.{Machine}
use Rattle.def_machine.specs.Updates.{Update}
use Rattle.def_machine.specs.Standings.{lowest_that}

-- Update i is among them, the first of which is update n, and passes.
pub record Passes (M : Machine) (p : ℕ → Update M → Bool) (n : ℕ) (us : List (Update M)) (i : ℕ) : Type 0 where
  pub place : ℕ
  pub update : Update M
  pub number : i ≡ n + place
  pub there : slice_get us place ≡ Some update
  pub passes : p i update ≡ true

pub lowest_passes : (M : Machine) (p : ℕ → Update M → Bool) (n : ℕ) (us : List (Update M)) (i : ℕ) → lowest_that p n us ≡ Some i → Passes M p n us i
lowest_passes M p n [] i h = absurd (none-some i h)
lowest_passes M p n (u ∷ us) i h = by (p n u) refl h (λ g. lowest_passes M p (suc n) us i g)
  where
    by : (b : Bool) → p n u ≡ b → (if b then Some n else lowest_that p (suc n) us) ≡ Some i → (lowest_that p (suc n) us ≡ Some i → Passes M p (suc n) us i) → Passes M p n (u ∷ us) i
    by true e g rec = let same : n ≡ i = same_Some n i g in record { place = 0; update = u; number = omega (arith, same); there = refl; passes = ap (λ j. p j u) (sym same) ∙ e }
    by false e g rec =
        let r : Passes M p (suc n) us i = rec g in
        record { place = suc r.place; update = r.update; number = omega (arith, r.number); there = r.there; passes = r.passes }
