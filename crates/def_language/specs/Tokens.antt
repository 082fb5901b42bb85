-- The longest token at the front of some bytes of a line, or the fault there.
use Rattle.std.specs.Prelude.{ℕ, ◌+◌, Bool, true, false, ◌||◌, ◌==◌, List, [], ◌∷◌, drop, length, Option, Some, None, Result, Ok, Err, if◌then◌else◌}
use Rattle.def_language.specs.declared.tokens.TokenKind.{TokenKind}
use Rattle.def_language.specs.declared.tokens.TokenKind.TheVariants.{Name, Number, Null, Open, Close, Comma, Colon, Arrow}
use Rattle.def_language.specs.declared.tokens.LexRefusal.{LexRefusal}
use Rattle.def_language.specs.declared.tokens.LexRefusal.TheVariants.{BadByte, WideNumber}
use Rattle.def_language.specs.Bytes.{begins_name, continues_name, is_digit, run, digits_of}
use Rattle.def_language.specs.Numbers.{is_wide, is_wide_part}
use Rattle.def_language.specs.QuotedTexts.{text_at}

-- a token's kind and the number of bytes that spell it, or the fault
abbrev pub Found : Type 0
Found = Result (TokenKind × ℕ) LexRefusal

-- a number from its digits on; `sign` counts the bytes of its sign, which begins at the place
unfoldable pub number_at : ℕ → Bool → ℕ → List ℕ → Found
number_at place negative sign digits =
    if run is_digit digits == 0 then Err (BadByte place)
    else if is_wide negative (digits_of digits) then Err (WideNumber place)
    else Ok (Number, sign + run is_digit digits)

-- after a `-`: an arrow, or the digits of a number
unfoldable pub minus_at : ℕ → List ℕ → Found
minus_at place [] = Err (BadByte place)
minus_at place (b ∷ rest) = if b == 62 then Ok (Arrow, 2) else number_at place true 1 (b ∷ rest)

-- a null after its first part: a point and the second part
unfoldable pub point_at : ℕ → List ℕ → List ℕ → Found
point_at place update [] = Err (BadByte place)
point_at place update (b ∷ rest) =
    if b == 46 then
    (if run is_digit rest == 0 then Err (BadByte place)
    else if is_wide_part update || is_wide_part (digits_of rest) then Err (WideNumber place)
    else Ok (Null, length update + 2 + run is_digit rest))
    else Err (BadByte place)

-- a null after its `?`
unfoldable pub null_at : ℕ → List ℕ → Found
null_at place rest =
    if run is_digit rest == 0 then Err (BadByte place)
    else point_at place (digits_of rest) (drop (run is_digit rest) rest)

-- the kind of the token that a byte spells by itself, if it does
abbrev pub sign : ℕ → Option TokenKind
sign b = if b == 40 then Some Open else if b == 41 then Some Close else if b == 44 then Some Comma else if b == 58 then Some Colon else None

abbrev pub sign_at : ℕ → Option TokenKind → Found
sign_at place (Some kind) = Ok (kind, 1)
sign_at place None = Err (BadByte place)

-- the longest token at the front of the bytes, which stand at the place
unfoldable pub token_at : ℕ → List ℕ → Found
token_at place [] = Err (BadByte place)
token_at place (b ∷ rest) =
    if begins_name b then Ok (Name, 1 + run continues_name rest)
    else if is_digit b then number_at place false 0 (b ∷ rest)
    else if b == 45 then minus_at place rest
    else if b == 63 then null_at place rest
    else if b == 34 then text_at place rest
    else sign_at place (sign b)
