-- Bytes are a roll in one way at most.
use Rattle.std.proofs.Common.{◌≡◌, ℕ, ap, refl, ◌∙◌, sym, List, [], ◌∷◌, ◌++◌, drop, append_assoc}
use Rattle.base_roll.specs.Format.{framed, opened, records, AreShort}
use Rattle.base_roll.specs.Rolls.{IsClosed, IsRoll}
use Rattle.base_roll.proofs.Frames.{frames_apart}
use Rattle.base_roll.proofs.Gates.{shut}

same_records : (payloads others : List (List ℕ)) (x y : List ℕ) → AreShort payloads → AreShort others → IsClosed x → IsClosed y → records payloads ++ x ≡ records others ++ y → payloads ≡ others
same_records [] [] x y a b c d e = refl
same_records [] (q ∷ others) x y a b c d e = absurd (shut x (framed q ++ (records others ++ y)) c (e ∙ append_assoc (opened q) (records others) y))
same_records (p ∷ payloads) [] x y a b c d e = absurd (shut y (framed p ++ (records payloads ++ x)) d (sym e ∙ append_assoc (opened p) (records payloads) x))
same_records (p ∷ payloads) (q ∷ others) x y a b c d e =
    let parts = frames_apart p q (records payloads ++ x) (records others ++ y) a.0 b.0
    (ap (drop 1) (sym (append_assoc (opened p) (records payloads) x) ∙ e ∙ append_assoc (opened q) (records others) y)) in
    let rest : payloads ≡ others = same_records payloads others x y a.1 b.1 c d parts.1 in
    λ i. parts.0 i ∷ rest i

same_rest : (before xs ys : List ℕ) → before ++ xs ≡ before ++ ys → xs ≡ ys
same_rest [] xs ys e = e
same_rest (b ∷ before) xs ys e = same_rest before xs ys (ap (drop 1) e)

pub one_list : (before : List ℕ) (payloads others : List (List ℕ)) (bytes : List ℕ) → IsRoll before payloads bytes → IsRoll before others bytes → payloads ≡ others
one_list before payloads others bytes (x, a, c) (y, b, d) =
    same_records payloads others x y a.short b.short c d
    (same_rest before (records payloads ++ x) (records others ++ y) (sym (append_assoc before (records payloads) x) ∙ sym a.bytes ∙ b.bytes ∙ append_assoc before (records others) y))
