-- The answers of the lexer's functions.
use Rattle.std.specs.Prelude.{◌≡◌, ℕ, Result, Ok, Err}
use Rattle.def_language.specs.declared.tokens.LexRefusal.{LexRefusal}
use Rattle.def_language.specs.declared.tokens.LexRefusal.TheVariants.{BadByte, OpenText, WideNumber, LongText, Memory}

-- the place of a fault
abbrev pub place_in : LexRefusal → ℕ
place_in (BadByte place) = place
place_in (OpenText place) = place
place_in (WideNumber place) = place
place_in (LongText place) = place
place_in Memory = 0

-- the result of reading, passed on to `then`; a refusal stays
infixl 10 ◌>>=◌
abbrev pub ◌>>=◌ : {A B : Type 0} → Result A LexRefusal → (A → Result B LexRefusal) → Result B LexRefusal
(Ok x) >>= then = then x
(Err refusal) >>= then = Err refusal
