-- The words of a line from a place on.
use Rattle.std.proofs.Common.{◌≡◌, ℕ, true, List, [], ◌∷◌, map, refl}
use Rattle.std.specs.Prelude.{Result, Ok, Err, is_ok}
use Rattle.def_language.specs.declared.tokens.Token.{Token}
use Rattle.def_language.specs.declared.tokens.LexRefusal.{LexRefusal}
use Rattle.def_language.specs.LexAnswers.{◌>>=◌}
use Rattle.def_language.specs.LineTokens.{is_faultless, tokens_at, tokens_from, with_front}
use Rattle.def_language.specs.Words.{word_of, words_at}
use Rattle.lang_forms.specs.Views.{found, words_from}

-- a line without fault has words
pub all_words : (line : List ℕ) → is_faultless 0 line ≡ true → words_at line ≡ Ok (words_from 0 line)
all_words line faultless = by (tokens_at 0 0 line) faultless where
  by : (read : Result (List Token) LexRefusal) → is_ok read ≡ true → (read >>= (λ tokens. Ok (map (word_of line) tokens))) ≡ Ok (map (word_of line) (found read))
  by (Ok tokens) e = refl
  by (Err refusal) e = let f : ⊥ = cc in absurd f

pub no_word : (line : List ℕ) (place : ℕ) → tokens_from place line ≡ Ok [] → words_from place line ≡ []
no_word line place e = rw e refl

pub one_word : (line : List ℕ) (place : ℕ) (token : Token) → tokens_from place line ≡ with_front (token ∷ []) (tokens_from token.to line) → is_faultless token.to line ≡ true
    → words_from place line ≡ word_of line token ∷ words_from token.to line
one_word line place token e faultless = by (tokens_from place line) (tokens_from token.to line) e faultless where
  by : (whole after : Result (List Token) LexRefusal) → whole ≡ with_front (token ∷ []) after → is_ok after ≡ true → map (word_of line) (found whole) ≡ word_of line token ∷ map (word_of line) (found after)
  by whole (Ok tokens) e ok = rw e refl
  by whole (Err refusal) e ok = let f : ⊥ = cc in absurd f
