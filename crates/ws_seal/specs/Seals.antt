-- Texts that vouch for all texts before them. A payload is a mark, a line feed and a text. The mark comes from the mark of the
-- payload before and the text.
use Rattle.std.specs.Prelude.{◌≡◌, ℕ, List, [], ◌∷◌, ◌++◌, take}
use Rattle.sha2.specs.Sha256.{sha256}
use Rattle.hex.specs.Hex.{encode_lower}

-- the first 8 bytes of the digest of `before` followed by `text`, as 16 hexadecimal digits
unfoldable pub mark : List ℕ → List ℕ → List ℕ
mark before text = encode_lower (take 8 (sha256 (before ++ text)))

abbrev pub sealed : List ℕ → List ℕ → List ℕ
sealed before text = mark before text ++ (10 ∷ text)

-- the payloads of texts, the first of which is sealed after the mark
abbrev pub payloads : List ℕ → List (List ℕ) → List (List ℕ)
payloads before [] = []
payloads before (text ∷ texts) = sealed before text ∷ payloads (mark before text) texts

-- the mark of the last text; without texts, the mark before them
abbrev pub last_mark : List ℕ → List (List ℕ) → List ℕ
last_mark before [] = before
last_mark before (text ∷ texts) = last_mark (mark before text) texts

-- no text has this payload after the mark
abbrev pub HasNoSeal : List ℕ → List ℕ → Type 0
HasNoSeal before payload = (text : List ℕ) → payload ≡ sealed before text → ⊥
