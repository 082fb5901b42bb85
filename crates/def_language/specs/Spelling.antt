-- The spellings of tokens of each kind, and the meanings of tokens.
use Rattle.std.specs.Prelude.{◌≡◌, ◌<◌, ◌≤◌, ℕ, ℤ, pos, neg_ℤ, ◌+◌, ◌-◌, Bool, true, false, ◌&&◌, not, nat_le, ◌==◌, List, [], ◌∷◌, take, drop, length, Result, Ok, Err, if◌then◌else◌}
use Rattle.std.specs.List.{list_all}
use Rattle.def_language.specs.declared.tokens.TokenKind.{TokenKind}
use Rattle.def_language.specs.declared.tokens.TokenKind.TheVariants.{Name, Number, Null, Text, Open, Close, Comma, Colon, Arrow}
use Rattle.def_language.specs.declared.tokens.Token.{Token}
use Rattle.def_language.specs.declared.tokens.LexRefusal.{LexRefusal}
use Rattle.def_language.specs.Bytes.{begins_name, continues_name, is_digit, run, digits_of}
use Rattle.def_language.specs.Numbers.{digits_value, is_wide, is_wide_part}
use Rattle.def_language.specs.QuotedTexts.{text_from}

-- the bytes are digits, at least one
abbrev pub are_digits : List ℕ → Bool
are_digits bytes = not (length bytes == 0) && list_all is_digit bytes

-- the part of a null before its point, and the part after it
abbrev pub first_part : List ℕ → List ℕ
first_part rest = digits_of rest

abbrev pub second_part : List ℕ → List ℕ
second_part rest = drop (run is_digit rest + 1) rest

-- the bytes begin with a point
abbrev pub has_point : List ℕ → Bool
has_point [] = false
has_point (b ∷ rest) = b == 46

-- the bytes after the `?` of a null
abbrev pub spells_null : List ℕ → Bool
spells_null rest =
    are_digits (first_part rest) && not (is_wide_part (first_part rest)) && has_point (drop (run is_digit rest) rest)
    && are_digits (second_part rest) && not (is_wide_part (second_part rest))

-- the text ends at the end of `size` bytes, and stands for at most 256
abbrev pub is_whole : ℕ → Result (List ℕ × ℕ) LexRefusal → Bool
is_whole size (Ok x) = nat_le (length x.0) 256 && (x.1 == size)
is_whole size (Err refusal) = false

-- Whether bytes spell a token of a kind: a name, a number in the range of 64 bits with a sign, a null with parts in
-- the range of 32 bits, a text of at most 256 bytes between quotes, or a sign.
abbrev pub spells : TokenKind → List ℕ → Bool
spells kind [] = false
spells Name (b ∷ rest) = begins_name b && list_all continues_name rest
spells Number (b ∷ rest) =
    if b == 45 then are_digits rest && not (is_wide true rest)
    else are_digits (b ∷ rest) && not (is_wide false (b ∷ rest))
spells Null (b ∷ rest) = (b == 63) && spells_null rest
spells Text (b ∷ rest) = (b == 34) && is_whole (length rest) (text_from 0 1 rest)
spells Open (b ∷ rest) = (b == 40) && (length rest == 0)
spells Close (b ∷ rest) = (b == 41) && (length rest == 0)
spells Comma (b ∷ rest) = (b == 44) && (length rest == 0)
spells Colon (b ∷ rest) = (b == 58) && (length rest == 0)
spells Arrow (b ∷ []) = false
spells Arrow (b ∷ c ∷ rest) = (b == 45) && (c == 62) && (length rest == 0)

-- no prefix of more than `width` of the bytes spells a token
abbrev pub IsLongest : List ℕ → ℕ → Type 0
IsLongest bytes width = (kind : TokenKind) (n : ℕ) → width < n → n ≤ length bytes → spells kind (take n bytes) ≡ false

-- the bytes of a token, if the first of all bytes stands at the place `start`
abbrev pub spelling_at : ℕ → List ℕ → Token → List ℕ
spelling_at start bytes token = take (token.to - token.from) (drop (token.from - start) bytes)

-- the token lies within the bytes, of which the first stands at the place `start`, and they spell it
pub record IsTokenAt (start : ℕ) (bytes : List ℕ) (token : Token) : Type 0 where
  pub begins : start ≤ token.from
  pub some : token.from < token.to
  pub within : token.to ≤ start + length bytes
  pub spelled : spells token.kind (spelling_at start bytes token) ≡ true

-- the token is the longest at its place in the line, which begins at the place `start`
abbrev pub IsLongestIn : ℕ → List ℕ → Token → Type 0
IsLongestIn start line token = IsLongest (drop (token.from - start) line) (token.to - token.from)

-- the number that bytes spell
abbrev pub number_of : List ℕ → ℤ
number_of [] = pos 0
number_of (b ∷ rest) = if b == 45 then neg_ℤ (pos (digits_value rest)) else pos (digits_value (b ∷ rest))

-- the update and the place of the null that bytes spell
abbrev pub null_of : List ℕ → ℕ × ℕ
null_of spelling = (digits_value (first_part (drop 1 spelling)), digits_value (second_part (drop 1 spelling)))

abbrev pub said : Result (List ℕ × ℕ) LexRefusal → List ℕ
said (Ok x) = x.0
said (Err refusal) = []

-- the bytes that the text stands for which these bytes spell
abbrev pub text_of : List ℕ → List ℕ
text_of spelling = said (text_from 0 1 (drop 1 spelling))
