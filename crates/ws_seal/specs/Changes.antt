-- A log that was changed on the disk, and the collision that would hide the change.
use Rattle.std.specs.Prelude.{◌≡◌, ℕ, List, [], ◌∷◌, ◌++◌, length}
use Rattle.base_roll.specs.Rolls.{gate_of}
use Rattle.ws_seal.specs.Seals.{mark, payloads}

-- the two lists of bytes differ in the byte at the place, and only there
pub record IsOtherAt (place : ℕ) (bytes other : List ℕ) : Type 0 where
  pub front : List ℕ
  pub back : List ℕ
  pub was : ℕ
  pub is : ℕ
  pub bytes_are : bytes ≡ front ++ (was ∷ back)
  pub other_are : other ≡ front ++ (is ∷ back)
  pub changed : was ≡ is → ⊥
  pub place_is : place ≡ length front

-- at the place stands the gate before the last of these texts
pub record IsLastGate (before m : List ℕ) (texts : List (List ℕ)) (place : ℕ) : Type 0 where
  pub earlier : List (List ℕ)
  pub text : List ℕ
  pub texts_are : texts ≡ earlier ++ text ∷ []
  pub place_is : place ≡ gate_of before (payloads m earlier)

-- two different inputs of the digest have one mark: the first 8 bytes of their digests are the same
pub record Collision : Type 0 where
  pub before : List ℕ
  pub text : List ℕ
  pub other_before : List ℕ
  pub other_text : List ℕ
  pub apart : before ++ text ≡ other_before ++ other_text → ⊥
  pub same : mark before text ≡ mark other_before other_text
