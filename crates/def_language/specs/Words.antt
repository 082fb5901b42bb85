-- The words that the tokens of a line say.
use Rattle.std.specs.Prelude.{ℕ, ℤ, List, map, Result, Ok}
use Rattle.def_language.specs.declared.tokens.TokenKind.{TokenKind}
use Rattle.def_language.specs.declared.tokens.TokenKind.TheVariants.{Name, Number, Null, Text, Open, Close, Comma, Colon, Arrow}
use Rattle.def_language.specs.declared.tokens.Token.{Token}
use Rattle.def_language.specs.declared.tokens.LexRefusal.{LexRefusal}
use Rattle.def_language.specs.LexAnswers.{◌>>=◌}
use Rattle.def_language.specs.LineTokens.{tokens_at}
use Rattle.def_language.specs.Spelling.{spelling_at, number_of, null_of, text_of}

-- A word of a line: the meaning of a token, however it is spelled. A number and the two parts of a null (update and place) are
-- given by their values, a text by the bytes that it stands for.
pub data Word : Type 0 where
  name : List ℕ → Word
  number : ℤ → Word
  null : ℕ → ℕ → Word
  text : List ℕ → Word
  opens : Word
  closes : Word
  comma : Word
  colon : Word
  arrow : Word

-- the word of a token of this kind and spelling
abbrev pub said : TokenKind → List ℕ → Word
said Name spelling = name spelling
said Number spelling = number (number_of spelling)
said Null spelling = null (null_of spelling).0 (null_of spelling).1
said Text spelling = text (text_of spelling)
said Open spelling = opens
said Close spelling = closes
said Comma spelling = comma
said Colon spelling = colon
said Arrow spelling = arrow

-- the word of a token of a line
abbrev pub word_of : List ℕ → Token → Word
word_of line token = said token.kind (spelling_at 0 line token)

-- the words of a line from left to right, or its leftmost lexical fault, placed within the line
abbrev pub words_at : List ℕ → Result (List Word) LexRefusal
words_at line = tokens_at 0 0 line >>= (λ tokens. Ok (map (word_of line) tokens))
