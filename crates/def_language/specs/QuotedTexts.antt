-- Texts between two quotes, with their escapes.
use Rattle.std.specs.Prelude.{ℕ, ◌+◌, nat_lt, ◌==◌, List, [], ◌∷◌, length, Option, Some, None, Result, Ok, Err, if◌then◌else◌}
use Rattle.def_language.specs.declared.tokens.TokenKind.{TokenKind}
use Rattle.def_language.specs.declared.tokens.TokenKind.TheVariants.{Text}
use Rattle.def_language.specs.declared.tokens.LexRefusal.{LexRefusal}
use Rattle.def_language.specs.declared.tokens.LexRefusal.TheVariants.{BadByte, OpenText, LongText}
use Rattle.def_language.specs.LexAnswers.{◌>>=◌}

-- the byte that a byte stands for directly after a backslash: `"`, a backslash, or a line feed for `n`
abbrev pub escaped : ℕ → Option ℕ
escaped b = if b == 34 then Some 34 else if b == 92 then Some 92 else if b == 110 then Some 10 else None

-- the byte b, which `width` bytes spell, before the rest of a text
abbrev pub says : ℕ → ℕ → Result (List ℕ × ℕ) LexRefusal → Result (List ℕ × ℕ) LexRefusal
says b width read = read >>= (λ x. Ok (b ∷ x.0, width + x.1))

-- the byte after a backslash, which stands at a place, before the rest of the text
abbrev pub says_escaped : ℕ → Option ℕ → Result (List ℕ × ℕ) LexRefusal → Result (List ℕ × ℕ) LexRefusal
says_escaped place (Some b) read = says b 2 read
says_escaped place None read = Err (BadByte (place + 1))

-- The rest of a text that opened at a place, from another place of its line on: the bytes that it stands for, and the number of
-- bytes that spell them, with the closing quote. Or the first fault: a backslash before a byte that cannot follow it, or no
-- closing quote on the line.
unfoldable pub text_from : ℕ → ℕ → List ℕ → Result (List ℕ × ℕ) LexRefusal
text_from opened place [] = Err (OpenText opened)
text_from opened place (b ∷ []) = if b == 34 then Ok ([], 1) else Err (OpenText opened)
text_from opened place (b ∷ c ∷ rest) =
    if b == 34 then Ok ([], 1)
    else if b == 92 then says_escaped place (escaped c) (text_from opened (place + 2) rest)
    else says b 1 (text_from opened (place + 1) (c ∷ rest))

-- a closed text of `count` bytes, at most 256, which `width` bytes of the line spell after its opening quote
abbrev pub closed : ℕ → ℕ → ℕ → Result (TokenKind × ℕ) LexRefusal
closed opened count width = if nat_lt 256 count then Err (LongText opened) else Ok (Text, 1 + width)

-- a text, from the bytes after its opening quote
abbrev pub text_at : ℕ → List ℕ → Result (TokenKind × ℕ) LexRefusal
text_at opened rest = text_from opened (opened + 1) rest >>= (λ x. closed opened (length x.0) x.1)
