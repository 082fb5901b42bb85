-- A line and its tokens, from left to right.
use Rattle.std.specs.Prelude.{ℕ, zero, suc, ◌+◌, ◌-◌, ◌==◌, Bool, is_ok, List, [], ◌∷◌, ◌++◌, drop, Result, Ok, if◌then◌else◌}
use Rattle.def_language.specs.declared.tokens.Token.{Token}
use Rattle.def_language.specs.declared.tokens.LexRefusal.{LexRefusal}
use Rattle.def_language.specs.LexAnswers.{◌>>=◌}
use Rattle.def_language.specs.Bytes.{is_blank}
use Rattle.def_language.specs.Tokens.{token_at}

-- the tokens, followed by those that are read
abbrev pub with_front : List Token → Result (List Token) LexRefusal → Result (List Token) LexRefusal
with_front tokens read = read >>= (λ others. Ok (tokens ++ others))

-- The tokens of the rest of a line, which stands at a place, or its leftmost fault. The first `inside` bytes belong to the token
-- before. Blanks stand between tokens, and a `#` begins a comment, which goes on to the end of the line.
unfoldable pub tokens_at : ℕ → ℕ → List ℕ → Result (List Token) LexRefusal
tokens_at place inside [] = Ok []
tokens_at place (suc inside) (b ∷ rest) = tokens_at (place + 1) inside rest
tokens_at place zero (b ∷ rest) =
    if is_blank b then tokens_at (place + 1) zero rest
    else if b == 35 then Ok []
    else token_at place (b ∷ rest) >>= (λ x. with_front (record { kind = x.0; from = place; to = place + x.1 } ∷ []) (tokens_at (place + 1) (x.1 - 1) rest))

-- the tokens of a line from a place on, or its leftmost fault there
abbrev pub tokens_from : ℕ → List ℕ → Result (List Token) LexRefusal
tokens_from place line = tokens_at place 0 (drop place line)

-- whether a line has no fault from a place on
abbrev pub is_faultless : ℕ → List ℕ → Bool
is_faultless place line = is_ok (tokens_from place line)
