-- Bytes are a log in one way at most.
use Rattle.std.proofs.Common.{◌≡◌, ℕ, ◌<◌, ◌^◌, ap, refl, ◌∙◌, sym, subst, List, [], ◌∷◌, ◌++◌, drop, append_assoc}
use Rattle.base_roll.specs.Format.{framed, records}
use Rattle.base_roll.specs.Rolls.{IsRoll}
use Rattle.base_roll.proofs.Frames.{frames_apart}
use Rattle.ws_seal.specs.Seals.{mark, sealed, payloads}
use Rattle.ws_seal.specs.Logs.{HasTexts, IsLog, opening}
use Rattle.ws_seal.proofs.Sealing.{text_of_sealed, same_texts}

module _ (one : (before : List ℕ) (payloads_ others : List (List ℕ)) (bytes : List ℕ) → IsRoll before payloads_ bytes → IsRoll before others bytes → payloads_ ≡ others) where
  pub one_list : (before m : List ℕ) (texts others : List (List ℕ)) (bytes : List ℕ) → HasTexts before m texts bytes → HasTexts before m others bytes → texts ≡ others
  one_list before m texts others bytes a b = same_texts m texts others (one before (payloads m texts) (payloads m others) bytes a b)

  same_head : (head other : List ℕ) (texts others : List (List ℕ)) (bytes : List ℕ) → IsLog (head ∷ texts) bytes → IsLog (other ∷ others) bytes → head ≡ other
  same_head head other texts others bytes (small, (x, a, c)) (short, (y, b, d)) =
      let whole : framed (sealed [] head) ++ (records (payloads (mark [] head) texts) ++ x) ≡ framed (sealed [] other) ++ (records (payloads (mark [] other) others) ++ y) =
      sym (append_assoc (opening head) (records (payloads (mark [] head) texts)) x) ∙ sym a.bytes ∙ b.bytes ∙ append_assoc (opening other) (records (payloads (mark [] other) others)) y in
      let apart = frames_apart (sealed [] head) (sealed [] other) _ _ small short whole in
      sym (text_of_sealed [] head) ∙ ap (drop 17) apart.0 ∙ text_of_sealed [] other

  pub one_log : (texts others : List (List ℕ)) (bytes : List ℕ) → IsLog texts bytes → IsLog others bytes → texts ≡ others
  one_log [] others bytes a b = absurd a
  one_log (head ∷ texts) [] bytes a b = absurd b
  one_log (head ∷ texts) (other ∷ others) bytes a b =
      let first : head ≡ other = same_head head other texts others bytes a b in
      let moved : HasTexts (opening head) (mark [] head) others bytes = subst (λ h. HasTexts (opening h) (mark [] h) others bytes) (sym first) b.1 in
      let rest : texts ≡ others = one_list (opening head) (mark [] head) texts others bytes a.1 moved in
      λ i. first i ∷ rest i
