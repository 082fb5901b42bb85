-- The layout of words on a line.
use Rattle.std.specs.Prelude.{ℕ, ℤ, pos, negsuc, ◌≡◌, ◌^◌, ◌<◌, ◌≤◌, Bool, true, false, ◌&&◌, ◌||◌, ◌==◌, List, [], ◌∷◌, ◌++◌, length, flat_map, if◌then◌else◌}
use Rattle.std.specs.Fmt.{decimal, signed_decimal}
use Rattle.std.specs.List.{list_all}
use Rattle.def_language.specs.Bytes.{begins_name, continues_name}
use Rattle.def_language.specs.Words.{Word, name, number, null, text, opens, closes, comma, colon, arrow}

-- A byte of a text as it is written: a quote, a backslash or a line feed (as `n`) after a backslash, any other byte as it is.
abbrev pub written_byte : ℕ → List ℕ
written_byte b = if b == 34 then 92 ∷ 34 ∷ [] else if b == 92 then 92 ∷ 92 ∷ [] else if b == 10 then 92 ∷ 110 ∷ [] else b ∷ []

-- a text in its quotes
abbrev pub quoted : List ℕ → List ℕ
quoted t = 34 ∷ (flat_map written_byte t ++ 34 ∷ [])

-- the null of an update and a place
abbrev pub null_text : ℕ → ℕ → List ℕ
null_text u k = 63 ∷ (decimal u ++ (46 ∷ decimal k))

-- the spelling of a word: numbers in plain decimal, with a `-` only if they are negative
abbrev pub spelled : Word → List ℕ
spelled (name n) = n
spelled (number z) = signed_decimal z
spelled (null u k) = null_text u k
spelled (text t) = quoted t
spelled opens = 40 ∷ []
spelled closes = 41 ∷ []
spelled comma = 44 ∷ []
spelled colon = 58 ∷ []
spelled arrow = 45 ∷ 62 ∷ []

abbrev pub is_open : Word → Bool
is_open opens = true
is_open _ = false

-- the word is a sign that stands directly after the word before it
abbrev pub is_tight : Word → Bool
is_tight opens = true
is_tight closes = true
is_tight comma = true
is_tight colon = true
is_tight _ = false

-- one space between two words, but none after `(`, or before `(`, `)`, `,` and `:`
abbrev pub gap : Word → Word → List ℕ
gap w v = if is_open w || is_tight v then [] else 32 ∷ []

-- the words on one line
unfoldable pub laid_out : List Word → List ℕ
laid_out [] = []
laid_out (w ∷ []) = spelled w
laid_out (w ∷ v ∷ words) = spelled w ++ (gap w v ++ laid_out (v ∷ words))

-- a letter or `_`, and then letters, digits and `_`
abbrev pub is_name : List ℕ → Bool
is_name [] = false
is_name (b ∷ rest) = begins_name b && list_all continues_name rest

-- in the range of 64 bits with a sign
abbrev pub IsInteger : ℤ → Type 0
IsInteger (pos n) = n < 2 ^ 63
IsInteger (negsuc n) = n < 2 ^ 63

-- A word that some token says: a name is well formed, numbers and the parts of nulls are in their ranges, and a text
-- has at most 256 bytes.
abbrev pub IsSpoken : Word → Type 0
IsSpoken (name n) = is_name n ≡ true
IsSpoken (number z) = IsInteger z
IsSpoken (null u k) = (u < 2 ^ 32) × (k < 2 ^ 32)
IsSpoken (text t) = length t ≤ 256
IsSpoken _ = Unit {0}
