-- Bytes below 128 are text, so their lines are read.
use Rattle.std.proofs.Common.{◌≡◌, ℕ, ◌<◌, true, List, [], ◌∷◌, length, refl, ap, ◌∙◌, arith}
use Rattle.std.specs.Prelude.{nat_lt, ◌==◌, IsUtf8}
use Rattle.std.specs.List.{list_all}
use Rattle.std.specs.Str.Lossy.{utf8_valid_len}
use Rattle.std.proofs.lemmas.Bool.{and_parts}
use Rattle.std.proofs.lemmas.Bool.Decides.{nat_tests}
use Rattle.std.proofs.lemmas.Str.{IsUtf8-nil, IsUtf8-append, IsUtf8-from_ascii, utf8_valid_len-IsUtf8}
use Rattle.def_language.specs.Lines.{read, lines_from, begun, lines_of, fault_text}
use Rattle.def_language.specs.Printing.{printed_text}

same : (n : ℕ) → (n == n) ≡ true
same n = grind (arith, nat_tests)

one : (b : ℕ) → b < 128 → IsUtf8 (b ∷ [])
one b lt = IsUtf8-from_ascii (b ∷ []) (grind (arith, nat_tests))

pub ascii_is_text : (bytes : List ℕ) → list_all (λ b. nat_lt b 128) bytes ≡ true → IsUtf8 bytes
ascii_is_text [] e = IsUtf8-nil
ascii_is_text (b ∷ bytes) e =
    let parts = and_parts (nat_lt b 128) (list_all (λ b. nat_lt b 128) bytes) e in
    let low : nat_lt b 128 ≡ true = parts.0 in
    IsUtf8-append (b ∷ []) bytes (one b (grind (arith, nat_tests))) (ascii_is_text bytes parts.1)

pub text_read : (bytes : List ℕ) → IsUtf8 bytes → read bytes ≡ lines_from 0 0 begun (lines_of bytes)
unfolding read
text_read bytes u =
    let e : (utf8_valid_len bytes == length bytes) ≡ true = ap (λ n. n == length bytes) (utf8_valid_len-IsUtf8 bytes u) ∙ same (length bytes) in
    rw e refl

-- what users are told of the bytes
pub told : (bytes said : List ℕ) → list_all (λ b. nat_lt b 128) bytes ≡ true → fault_text (lines_from 0 0 begun (lines_of bytes)) ≡ said → fault_text (read bytes) ≡ said
told bytes said low e = ap fault_text (text_read bytes (ascii_is_text bytes low)) ∙ e

-- what `format` writes of them
pub shown : (bytes form : List ℕ) → list_all (λ b. nat_lt b 128) bytes ≡ true → printed_text (lines_from 0 0 begun (lines_of bytes)) ≡ form → printed_text (read bytes) ≡ form
shown bytes form low e = ap printed_text (text_read bytes (ascii_is_text bytes low)) ∙ e
