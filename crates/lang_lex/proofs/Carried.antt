-- A text, byte by byte: what its bytes so far and the rest say together.
use Rattle.std.proofs.Common.{◌≡◌, ℕ, ◌+◌, ◌≤◌, true, false, List, [], ◌∷◌, ◌++◌, drop, length, get_or, refl, arith}
use Rattle.std.specs.Prelude.{Result, Ok, Some, ◌==◌}
use Rattle.def_language.specs.declared.tokens.LexRefusal.{LexRefusal}
use Rattle.def_language.specs.LexAnswers.{◌>>=◌}
use Rattle.def_language.specs.QuotedTexts.{says, escaped, text_from}

pub plain_byte : (opened place : ℕ) (bytes : List ℕ) → 2 ≤ length bytes → (get_or bytes 0 0 == 34) ≡ false → (get_or bytes 0 0 == 92) ≡ false
    → text_from opened place bytes ≡ says (get_or bytes 0 0) 1 (text_from opened (place + 1) (drop 1 bytes))
unfolding text_from
plain_byte opened place [] two quote backslash = absurd (omega arith)
plain_byte opened place (b ∷ []) two quote backslash = absurd (omega arith)
plain_byte opened place (b ∷ c ∷ rest) two quote backslash = rw (quote, backslash) refl

pub escaped_byte : (opened place said : ℕ) (bytes : List ℕ) → 2 ≤ length bytes → (get_or bytes 0 0 == 34) ≡ false → (get_or bytes 0 0 == 92) ≡ true
    → escaped (get_or bytes 1 0) ≡ Some said → text_from opened place bytes ≡ says said 2 (text_from opened (place + 2) (drop 2 bytes))
unfolding text_from
escaped_byte opened place said [] two quote backslash is = absurd (omega arith)
escaped_byte opened place said (b ∷ []) two quote backslash is = absurd (omega arith)
escaped_byte opened place said (b ∷ c ∷ rest) two quote backslash is = rw (quote, backslash, is) refl

-- how much is said and how many bytes spell it, counted on from these numbers
abbrev pub added : ℕ → ℕ → Result (List ℕ × ℕ) LexRefusal → Result (ℕ × ℕ) LexRefusal
added count width read = read >>= (λ x. Ok (count + length x.0, width + x.1))

-- what is said and how many bytes spell it, after what was said before and its bytes
abbrev pub carried : List ℕ → ℕ → Result (List ℕ × ℕ) LexRefusal → Result (List ℕ × ℕ) LexRefusal
carried said width read = read >>= (λ x. Ok (said ++ x.0, width + x.1))
