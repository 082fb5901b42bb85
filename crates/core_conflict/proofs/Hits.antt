-- Trails of which no write passes a test.
use Rattle.std.proofs.Common.{◌≡◌, ◌∙◌, refl, sym, Bool, true, false, ◌||◌, List, [], ◌∷◌, ◌++◌}
use Rattle.std.specs.List.{list_any}
use Rattle.std.proofs.lemmas.Bool.{or_parts}
use Rattle.def_chase.specs.Repository.{Change}
use Rattle.def_chase.proofs.Bools.{differ}
use Rattle.core_conflict.specs.Concerns.{is_hit}

pub neither : (a b : Bool) → a ≡ false → b ≡ false → (a || b) ≡ false
neither a b e f = λ i. e i || f i

-- Nor does one pass a stronger test.
none_more : {K : Type 0} (p q : K → Bool) → ((x : K) → p x ≡ false → q x ≡ false) → (xs : List K) → list_any p xs ≡ false → list_any q xs ≡ false
none_more p q h [] e = refl
none_more p q h (x ∷ xs) e = let parts = or_parts (p x) (list_any p xs) e in neither (q x) (list_any q xs) (h x parts.0) (none_more p q h xs parts.1)

off : (a b : Bool) → (b ≡ true → a ≡ true) → a ≡ false → b ≡ false
off a true h e = differ (sym e ∙ h refl)
off a false h e = refl

pub unhit : (p q : Change → Bool) → ((w : Change) → q w ≡ true → p w ≡ true) → (trails : List (List Change)) → is_hit p trails ≡ false → is_hit q trails ≡ false
unhit p q h trails e = none_more (list_any p) (list_any q) (λ ws. none_more p q (λ w. off (p w) (q w) (h w)) ws) trails e

-- Trails of which no write passes, with a last one.
pub before_last : (p : Change → Bool) (trails : List (List Change)) (ws : List Change) → is_hit p (trails ++ ws ∷ []) ≡ false → (is_hit p trails ≡ false) × (list_any p ws ≡ false)
before_last p [] ws h = (refl, (or_parts (list_any p ws) false h).0)
before_last p (vs ∷ trails) ws h =
    let parts = or_parts (list_any p vs) (is_hit p (trails ++ ws ∷ [])) h in
    let more = before_last p trails ws parts.1 in (neither (list_any p vs) (is_hit p trails) parts.0 more.0, more.1)
