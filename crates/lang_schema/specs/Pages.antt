-- Text to which words are added, laid out as on a line.
use Rattle.std.specs.Prelude.{ℕ, Bool, false, ◌&&◌, ◌==◌, not, List, [], ◌∷◌, ◌++◌, fold, if◌then◌else◌}
use Rattle.def_language.specs.Words.{Word}
use Rattle.def_language.specs.Layout.{spelled, is_open, is_tight}

-- A text, and whether a space comes between it and a word that may stand apart: not at the start of a line, and not after `(`.
pub record Written : Type 0 where
  pub text : List ℕ
  pub apart : Bool

-- the empty page
abbrev pub blank : Written
blank = record { text = []; apart = false }

abbrev pub space : Bool → List ℕ
space apart = if apart then 32 ∷ [] else []

-- the text with one more word
abbrev pub with_word : Written → Word → Written
with_word page w = record { text = page.text ++ (space (page.apart && not (is_tight w)) ++ spelled w); apart = not (is_open w) }

-- the text with more words
abbrev pub with_words : Written → List Word → Written
with_words page words = fold with_word page words

-- the text with a line feed
abbrev pub with_line_feed : Written → Written
with_line_feed page = record { text = page.text ++ 10 ∷ []; apart = false }

-- a byte of a text that is written as it is
abbrev pub is_plain : ℕ → Bool
is_plain b = not (b == 34) && (not (b == 92) && not (b == 10))
