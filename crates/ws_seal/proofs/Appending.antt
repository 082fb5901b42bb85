-- A text appended is a payload appended.
use Rattle.std.proofs.Common.{◌≡◌, ℕ, inl, inr, ap, ◌∙◌, sym, subst, List, [], ◌∷◌, ◌++◌, arith}
use Rattle.base_devices.specs.States.{State}
use Rattle.base_roll.specs.Rolls.{IsRoll, IsAt}
use Rattle.base_roll.specs.Histories.{IsAppending, IsBeforeOrAfter}
use Rattle.base_roll.proofs.Onwards.{resting}
use Rattle.ws_seal.specs.Seals.{mark, sealed, payloads, last_mark}
use Rattle.ws_seal.specs.Logs.{HasTexts, IsHeld}
use Rattle.ws_seal.proofs.Sealing.{payloads_more, last_more}

module _ (before m : List ℕ) (texts : List (List ℕ)) (last text payload : List ℕ) (marked : last ≡ last_mark m texts) (is : payload ≡ sealed last text) where
  one_more : payloads m texts ++ payload ∷ [] ≡ payloads m (texts ++ text ∷ [])
  one_more = ap (λ p. payloads m texts ++ p ∷ []) (is ∙ ap (λ x. sealed x text) marked) ∙ sym (payloads_more m texts text)

  either : (bytes : List ℕ) → IsBeforeOrAfter (IsRoll before) (payloads m texts) payload bytes → IsBeforeOrAfter (HasTexts before m) texts text bytes
  either bytes (inl without) = inl without
  either bytes (inr with_it) = inr (subst (λ ps. IsRoll before ps bytes) one_more with_it)

  pub appending : (old new : State) → IsAppending (IsRoll before) (payloads m texts) payload old new → IsAppending (HasTexts before m) texts text old new
  appending old new a = record { goes = a.goes; images = λ k bytes l h i. either bytes (a.images k bytes l h i) }

  pub appended : (new : State) (gate : ℕ) (next : List ℕ) → next ≡ mark last text → IsAt before (payloads m texts ++ payload ∷ []) new record { gate = gate } → IsHeld before m (texts ++ text ∷ []) new gate next
  appended new gate next e at = record {
    at = subst (λ ps. IsAt before ps new record { gate = gate }) one_more at;
    mark_is = e ∙ ap (λ x. mark x text) marked ∙ sym (last_more m texts text);
  }

-- if no call was made
pub unmoved : (before m : List ℕ) (texts : List (List ℕ)) (text : List ℕ) (disk : State) (gate : ℕ) (last : List ℕ) → IsHeld before m texts disk gate last → IsAppending (HasTexts before m) texts text disk disk
unmoved before m texts text disk gate last held = resting (HasTexts before m) disk texts text (held.at.roll, held.at.settled)
