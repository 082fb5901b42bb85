-- Bytes that are UTF-8 are read line by line.
use Rattle.std.specs.Prelude.{◌≡◌, ℕ, List, length, true, ◌==◌, IsUtf8}
use Rattle.std.proofs.Common.{refl, ap, ◌∙◌, arith}
use Rattle.std.specs.Str.{IsValidUpTo}
use Rattle.std.specs.Str.Lossy.{utf8_valid_len}
use Rattle.std.proofs.lemmas.Bool.Decides.{nat_tests}
use Rattle.std.proofs.lemmas.Str.{utf8_valid_len-IsUtf8, utf8_valid_len-IsValidUpTo}
use Rattle.def_language.specs.Lines.{begun, lines_from, lines_of, read}

pub text_read : (bytes : List ℕ) → IsUtf8 bytes → read bytes ≡ lines_from 0 0 begun (lines_of bytes)
unfolding read
text_read bytes text =
    let same : (length bytes == length bytes) ≡ true = grind (arith, nat_tests) in
    let whole : (utf8_valid_len bytes == length bytes) ≡ true = ap (λ n. n == length bytes) (utf8_valid_len-IsUtf8 bytes text) ∙ same in
    rw whole refl

-- bytes that stop being UTF-8 somewhere are not UTF-8
pub not_utf8 : (bytes : List ℕ) (place : ℕ) → IsValidUpTo bytes place → IsUtf8 bytes → ⊥
not_utf8 bytes place stop text =
    let to : utf8_valid_len bytes ≡ place = utf8_valid_len-IsValidUpTo bytes place stop in
    let whole : utf8_valid_len bytes ≡ length bytes = utf8_valid_len-IsUtf8 bytes text in
    omega (arith, to, whole, stop.short)
