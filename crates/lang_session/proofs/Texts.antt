-- Bytes are UTF-8, or stop being so somewhere.
use Rattle.std.specs.Prelude.{◌≡◌, ℕ, zero, suc, List, length, take, Bool, true, false, ◌==◌, IsUtf8, ◌<◌, if◌then◌else◌}
use Rattle.std.proofs.Common.{refl, sym, ap, subst, ◌∙◌, arith}
use Rattle.std.proofs.lemmas.Bool.{eqb-true}
use Rattle.std.proofs.lemmas.List.{take_all}
use Rattle.std.specs.Str.{is_utf8}
use Rattle.std.specs.Str.{IsValidUpTo}
use Rattle.std.specs.Str.Lossy.{utf8_valid_len, valid_len_up_to}
use Rattle.std.proofs.lemmas.Bool.Decides.{nat_tests}
use Rattle.std.proofs.lemmas.Str.{IsUtf8-nil, IsUtf8-from_is_utf8, utf8_valid_len-IsUtf8, utf8_valid_len-IsValidUpTo}
use Rattle.lang_session.specs.Admissible.{is_text}

-- the front that was found to be UTF-8 is
front_text : (bytes : List ℕ) (n : ℕ) → IsUtf8 (take (valid_len_up_to bytes n) bytes)
front_text bytes zero = IsUtf8-nil
front_text bytes (suc n) = by (front_text bytes n) (is_utf8 (take (suc n) bytes)) refl where
  by : IsUtf8 (take (valid_len_up_to bytes n) bytes) → (b : Bool) → is_utf8 (take (suc n) bytes) ≡ b → IsUtf8 (take (let k : ℕ = if b then suc n else valid_len_up_to bytes n in k) bytes)
  by shorter true e = IsUtf8-from_is_utf8 (take (suc n) bytes) e
  by shorter false e = shorter

-- where it is all bytes, they are
pub whole_text : (bytes : List ℕ) → is_text bytes ≡ true → IsUtf8 bytes
unfolding utf8_valid_len
whole_text bytes e =
    let n : utf8_valid_len bytes ≡ length bytes = eqb-true (utf8_valid_len bytes) (length bytes) e in
    subst IsUtf8 (take_all (length bytes) bytes (omega arith)) (subst (λ (k : ℕ). IsUtf8 (take k bytes)) n (front_text bytes (length bytes)))

-- bytes that are UTF-8 pass the test
pub all_text : (bytes : List ℕ) → IsUtf8 bytes → true ≡ is_text bytes
all_text bytes text =
    let same : (length bytes == length bytes) ≡ true = grind (arith, nat_tests) in
    sym (ap (λ n. n == length bytes) (utf8_valid_len-IsUtf8 bytes text) ∙ same)

-- bytes that stop being so do not
pub part_text : (bytes : List ℕ) (place : ℕ) → IsValidUpTo bytes place → false ≡ is_text bytes
part_text bytes place stop =
    let short : place < length bytes = stop.short in
    let apart : (place == length bytes) ≡ false = grind (arith, nat_tests) in
    sym (ap (λ n. n == length bytes) (utf8_valid_len-IsValidUpTo bytes place stop) ∙ apart)
