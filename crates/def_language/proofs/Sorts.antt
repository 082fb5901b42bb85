-- The kinds of tokens that say words, and what may follow them.
use Rattle.std.proofs.Common.{◌≡◌, ℕ, Bool, false, List, [], ◌∷◌}
use Rattle.def_language.specs.declared.tokens.TokenKind.{TokenKind}
use Rattle.def_language.specs.declared.tokens.TokenKind.TheVariants as kind
use Rattle.def_language.specs.Bytes.{continues_name, is_digit}
use Rattle.def_language.specs.Words.{Word, name, number, null, text, opens, closes, comma, colon, arrow}

abbrev pub kind_of : Word → TokenKind
kind_of (name n) = kind.Name
kind_of (number z) = kind.Number
kind_of (null u k) = kind.Null
kind_of (text t) = kind.Text
kind_of opens = kind.Open
kind_of closes = kind.Close
kind_of comma = kind.Comma
kind_of colon = kind.Colon
kind_of arrow = kind.Arrow

abbrev pub starts : (ℕ → Bool) → List ℕ → Bool
starts p [] = false
starts p (b ∷ rest) = p b

-- nothing after the word goes on with it
abbrev pub Stops : Word → List ℕ → Type 0
Stops (name n) rest = starts continues_name rest ≡ false
Stops (number z) rest = starts is_digit rest ≡ false
Stops (null u k) rest = starts is_digit rest ≡ false
Stops _ rest = Unit {0}
