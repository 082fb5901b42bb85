-- Numbers gathered, each once.
use Rattle.std.proofs.Common.{◌≡◌, ◌∙◌, ap, refl, sym, ℕ, Bool, true, false, cond, ◌||◌, List, [], ◌∷◌}
use Rattle.std.specs.List.{list_any}

or_none : (b : Bool) → (b || false) ≡ b
or_none true = refl
or_none false = refl

or_join : (a b c : Bool) → (a || (b || c)) ≡ ((a || b) || c)
or_join true b c = refl
or_join false b c = refl

or_again : (a b : Bool) → ((b || a) || b) ≡ (b || a)
or_again a true = refl
or_again a false = or_none a

here : (test : ℕ → Bool) (r : ℕ) → ((k : ℕ) → test k ≡ true → k ≡ r) → (p : ℕ → Bool) (k : ℕ) (ks : List ℕ)
    → (list_any test ks ≡ true → list_any p ks ≡ (list_any p ks || p r))
    → (b : Bool) → test k ≡ b → (b || list_any test ks) ≡ true → (p k || list_any p ks) ≡ ((p k || list_any p ks) || p r)
here test r f p k ks rest true t e = sym (or_again (list_any p ks) (p k)) ∙ ap (λ n. (p k || list_any p ks) || p n) (f k t)
here test r f p k ks rest false t e = ap (λ b. p k || b) (rest e) ∙ or_join (p k) (list_any p ks) (p r)

-- What is among them already is none more.
pub one_again : (test : ℕ → Bool) (r : ℕ) → ((k : ℕ) → test k ≡ true → k ≡ r) → (p : ℕ → Bool) (ks : List ℕ) → list_any test ks ≡ true
    → list_any p ks ≡ (list_any p ks || p r)
one_again test r f p [] e = ap (λ b. cond b (p r) false) e
one_again test r f p (k ∷ ks) e = here test r f p k ks (one_again test r f p ks) (test k) refl e
