-- The place of a lexical fault lies within its line.
use Rattle.std.specs.Prelude.{◌≤◌, ℕ, zero, suc, ◌+◌, ◌-◌, nat_lt, Bool, true, false, ◌||◌, ◌==◌, List, [], ◌∷◌, drop, length, Option, Some, None, Result, Ok, Err, if◌then◌else◌}
use Rattle.std.proofs.Common.{arith}
use Rattle.def_language.specs.declared.tokens.TokenKind.{TokenKind}
use Rattle.def_language.specs.declared.tokens.LexRefusal.{LexRefusal}
use Rattle.def_language.specs.LexAnswers.{◌>>=◌, place_in}
use Rattle.def_language.specs.Bytes.{begins_name, is_digit, is_blank, run, digits_of}
use Rattle.def_language.specs.Numbers.{is_wide, is_wide_part}
use Rattle.def_language.specs.QuotedTexts.{escaped, says, says_escaped, text_from, text_at}
use Rattle.def_language.specs.Tokens.{number_at, minus_at, point_at, null_at, sign, sign_at, token_at}
use Rattle.def_language.specs.LineTokens.{tokens_at}

-- a fault, if there is one, stands at no place after n
abbrev pub Within : {A : Type 0} → ℕ → Result A LexRefusal → Type 0
Within n (Ok x) = Unit {0}
Within n (Err refusal) = place_in refusal ≤ n

within_bind : {A B : Type 0} (n : ℕ) (m : Result A LexRefusal) (f : A → Result B LexRefusal) → Within n m → ((x : A) → Within n (f x)) → Within n (m >>= f)
within_bind n (Ok x) f h g = g x
within_bind n (Err e) f h g = h

within_if : {A : Type 0} (n : ℕ) (b : Bool) (x y : Result A LexRefusal) → Within n x → Within n y → Within n (if b then x else y)
within_if n true x y h g = h
within_if n false x y h g = g

within_more : {A : Type 0} (m n : ℕ) (x : Result A LexRefusal) → m ≤ n → Within m x → Within n x
within_more m n (Ok x) le h = tt
within_more m n (Err e) le h = omega (arith, le, h)

number_within : (place : ℕ) (negative : Bool) (signs : ℕ) (digits : List ℕ) → Within place (number_at place negative signs digits)
unfolding number_at
number_within place negative signs digits =
    within_if place (run is_digit digits == 0) _ _ (omega arith) (within_if place (is_wide negative (digits_of digits)) _ _ (omega arith) tt)

minus_within : (place : ℕ) (rest : List ℕ) → Within place (minus_at place rest)
unfolding minus_at
minus_within place [] = omega arith
minus_within place (b ∷ rest) = within_if place (b == 62) _ _ tt (number_within place true 1 (b ∷ rest))

point_within : (place : ℕ) (update rest : List ℕ) → Within place (point_at place update rest)
unfolding point_at
point_within place update [] = omega arith
point_within place update (b ∷ rest) =
    within_if place (b == 46) _ _
    (within_if place (run is_digit rest == 0) _ _ (omega arith) (within_if place (is_wide_part update || is_wide_part (digits_of rest)) _ _ (omega arith) tt))
    (omega arith)

null_within : (place : ℕ) (rest : List ℕ) → Within place (null_at place rest)
unfolding null_at
null_within place rest = within_if place (run is_digit rest == 0) _ _ (omega arith) (point_within place (digits_of rest) (drop (run is_digit rest) rest))

says_within : (n b width : ℕ) (read : Result (List ℕ × ℕ) LexRefusal) → Within n read → Within n (says b width read)
says_within n b width (Ok x) h = tt
says_within n b width (Err e) h = h

escaped_within : (n place : ℕ) (said : Option ℕ) (read : Result (List ℕ × ℕ) LexRefusal) → place + 1 ≤ n → Within n read → Within n (says_escaped place said read)
escaped_within n place (Some b) read inside h = says_within n b 2 read h
escaped_within n place None read inside h = inside

text_within : (n opened place : ℕ) (rest : List ℕ) → opened ≤ n → place + length rest ≤ n → Within n (text_from opened place rest)
unfolding text_from
text_within n opened place [] from to = from
text_within n opened place (b ∷ []) from to = within_if n (b == 34) _ _ tt from
text_within n opened place (b ∷ c ∷ rest) from to =
    within_if n (b == 34) _ _ tt
    (within_if n (b == 92) _ _
    (escaped_within n place (escaped c) _ (omega (arith, to)) (text_within n opened (place + 2) rest from (omega (arith, to))))
    (says_within n b 1 _ (text_within n opened (place + 1) (c ∷ rest) from (omega (arith, to)))))

quoted_within : (opened : ℕ) (rest : List ℕ) → Within (opened + 1 + length rest) (text_at opened rest)
quoted_within opened rest =
    within_bind (opened + 1 + length rest) (text_from opened (opened + 1) rest) _
    (text_within (opened + 1 + length rest) opened (opened + 1) rest (omega arith) (omega arith))
    (λ x. within_if (opened + 1 + length rest) (nat_lt 256 (length x.0)) _ _ (omega arith) tt)

sign_within : (place : ℕ) (kind : Option TokenKind) → Within place (sign_at place kind)
sign_within place (Some kind) = tt
sign_within place None = omega arith

token_within : (place : ℕ) (bytes : List ℕ) → Within (place + length bytes) (token_at place bytes)
unfolding token_at
token_within place [] = omega arith
token_within place (b ∷ rest) =
    let n : ℕ = place + length (b ∷ rest) in
    within_if n (begins_name b) _ _ tt
    (within_if n (is_digit b) _ _ (within_more place n _ (omega arith) (number_within place false 0 (b ∷ rest)))
    (within_if n (b == 45) _ _ (within_more place n _ (omega arith) (minus_within place rest))
    (within_if n (b == 63) _ _ (within_more place n _ (omega arith) (null_within place rest))
    (within_if n (b == 34) _ _ (within_more (place + 1 + length rest) n _ (omega arith) (quoted_within place rest))
    (within_more place n _ (omega arith) (sign_within place (sign b)))))))

-- the fault of a line stands in the line or at its end
pub tokens_within : (place inside : ℕ) (line : List ℕ) → Within (place + length line) (tokens_at place inside line)
unfolding tokens_at
tokens_within place inside [] = tt
tokens_within place (suc inside) (b ∷ rest) = within_more (place + 1 + length rest) _ _ (omega arith) (tokens_within (place + 1) inside rest)
tokens_within place zero (b ∷ rest) =
    let n : ℕ = place + length (b ∷ rest) in
    within_if n (is_blank b) _ _ (within_more (place + 1 + length rest) n _ (omega arith) (tokens_within (place + 1) zero rest))
    (within_if n (b == 35) _ _ tt
    (within_bind n (token_at place (b ∷ rest)) _ (token_within place (b ∷ rest))
    (λ x. within_bind n (tokens_at (place + 1) (x.1 - 1) rest) _
    (within_more (place + 1 + length rest) n _ (omega arith) (tokens_within (place + 1) (x.1 - 1) rest)) (λ others. tt))))
