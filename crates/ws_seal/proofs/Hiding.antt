-- When records are hidden after a closed gate.
use Rattle.std.proofs.Common.{◌≡◌, ℕ, ◌<◌, ◌^◌, ap, ◌∙◌, sym, subst, List, ◌∷◌, ◌++◌, length, drop, get_or, arith}
use Rattle.base_roll.specs.Format.{framed}
use Rattle.base_roll.proofs.Frames.{frames_apart}
use Rattle.ws_seal.specs.Seals.{mark, sealed, HasNoSeal}
use Rattle.ws_seal.specs.Logs.{BeginsSealed, IsHiddenAfter}
use Rattle.ws_seal.proofs.Sealing.{text_of_sealed}

module _ (m after payload more : List ℕ) (e : after ≡ framed payload ++ more) (small : length payload < 2 ^ 32) where
  parts : (h : IsHiddenAfter m after) → (payload ≡ sealed m h.text) × (more ≡ 1 ∷ h.more)
  parts h = frames_apart payload (sealed m h.text) more (1 ∷ h.more) small h.short (sym e ∙ h.stands)

  pub no_gate : length more < 1 → IsHiddenAfter m after → ⊥
  no_gate l h = omega (arith, ap length (parts h).1)

  pub other_gate : (get_or more 0 0 ≡ 1 → ⊥) → IsHiddenAfter m after → ⊥
  other_gate off h = off (ap (λ xs. get_or xs 0 0) (parts h).1)

  pub no_seal : HasNoSeal m payload → IsHiddenAfter m after → ⊥
  no_seal none h = none h.text (parts h).0

  module _ (text digits next : List ℕ) (is : payload ≡ sealed m text) (marked : digits ≡ mark m text) (open_ : more ≡ 1 ∷ next) where
    same : (h : IsHiddenAfter m after) → h.text ≡ text
    same h = sym (text_of_sealed m h.text) ∙ ap (drop 17) (sym (parts h).0 ∙ is) ∙ text_of_sealed m text

    pub no_next : (BeginsSealed digits next → ⊥) → IsHiddenAfter m after → ⊥
    no_next none h = none (subst (λ xs. BeginsSealed digits xs) (ap (drop 1) (sym (parts h).1 ∙ open_)) (subst (λ x. BeginsSealed x h.more) (ap (mark m) (same h) ∙ sym marked) h.next))

    pub both : BeginsSealed digits next → IsHiddenAfter m after
    both b = record {
      text = text;
      more = next;
      short = subst (λ (p : List ℕ). length p < 2 ^ 32) is small;
      stands = e ∙ ap (λ xs. framed payload ++ xs) open_ ∙ ap (λ p. framed p ++ (1 ∷ next)) is;
      next = subst (λ x. BeginsSealed x next) marked b;
    }

-- a frame with the payload of no text after the mark
pub not_sealed : (m bytes payload more : List ℕ) → bytes ≡ framed payload ++ more → length payload < 2 ^ 32 → HasNoSeal m payload → BeginsSealed m bytes → ⊥
not_sealed m bytes payload more e small none b = none b.text (frames_apart payload (sealed m b.text) more b.more small b.short (sym e ∙ b.stands)).0
