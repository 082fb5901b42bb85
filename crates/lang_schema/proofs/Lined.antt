-- Words on a page are laid out as on a line.
use Rattle.std.proofs.Common.{◌≡◌, ◌∙◌, ℕ, Bool, true, false, List, [], ◌∷◌, ◌++◌, refl, sym, ap, append_assoc}
use Rattle.std.specs.Prelude.{flat_map, ◌&&◌, ◌||◌, not, if◌then◌else◌}
use Rattle.std.proofs.lemmas.List.{append-nil}
use Rattle.std.proofs.lemmas.List.Sums.{fold-append}
use Rattle.def_language.specs.Words.{Word, arrow, comma}
use Rattle.def_language.specs.Grammar.{separated}
use Rattle.def_language.specs.Layout.{gap, is_open, is_tight, laid_out, spelled}
use Rattle.lang_schema.specs.Pages.{Written, blank, space, with_word, with_words}

-- items with commas between: the first, and each other after a comma
pub separated_is : {A : Type 0} (words : A → List Word) (x : A) (xs : List A) → separated words (x ∷ xs) ≡ words x ++ flat_map (λ y. comma ∷ words y) xs
separated_is words x [] = sym (append-nil (words x))
separated_is words x (y ∷ xs) = ap (λ (ws : List Word). words x ++ comma ∷ ws) (separated_is words y xs)

-- what words add to a page
abbrev onto : Bool → List Word → List ℕ
onto apart [] = []
onto apart (w ∷ words) = (space (apart && not (is_tight w)) ++ spelled w) ++ onto (not (is_open w)) words

added_text : (page : Written) (words : List Word) → (with_words page words).text ≡ page.text ++ onto page.apart words
added_text page [] = sym (append-nil page.text)
added_text page (w ∷ words) = added_text (with_word page w) words ∙ append_assoc page.text (space (page.apart && not (is_tight w)) ++ spelled w) (onto (not (is_open w)) words)

gap_is : (w v : Word) → space (not (is_open w) && not (is_tight v)) ≡ gap w v
gap_is w v = by (is_open w) (is_tight v) where
  by : (b c : Bool) → space (not b && not c) ≡ (if b || c then [] else 32 ∷ [])
  by true c = refl
  by false true = refl
  by false false = refl

after_gap : (w v : Word) (words : List Word) → onto false (v ∷ words) ≡ laid_out (v ∷ words) → onto (not (is_open w)) (v ∷ words) ≡ gap w v ++ laid_out (v ∷ words)
unfolding laid_out
after_gap w v words e =
    append_assoc (space (not (is_open w) && not (is_tight v))) (spelled v) (onto (not (is_open v)) words)
    ∙ ap (λ (g : List ℕ). g ++ (spelled v ++ onto (not (is_open v)) words)) (gap_is w v)
    ∙ ap (λ (t : List ℕ). gap w v ++ t) e

from_start : (words : List Word) → onto false words ≡ laid_out words
unfolding laid_out
from_start [] = refl
from_start (w ∷ []) = append-nil (spelled w)
from_start (w ∷ v ∷ words) = ap (λ (t : List ℕ). spelled w ++ t) (after_gap w v words (from_start (v ∷ words)))

-- at the start of a line
pub line_text : (page : Written) (words : List Word) → page.apart ≡ false → (with_words page words).text ≡ page.text ++ laid_out words
line_text page words start = added_text page words ∙ ap (λ (b : Bool). page.text ++ onto b words) start ∙ ap (λ (t : List ℕ). page.text ++ t) (from_start words)

-- on a page of its own
pub page_text : (words : List Word) → (with_words blank words).text ≡ laid_out words
page_text words = line_text blank words refl

-- the first item, and then the others
pub after_first : {A : Type 0} (words : A → List Word) (page after : Written) (x : A) (xs : List A) → after ≡ with_words page (words x)
    → with_words after (flat_map (λ y. comma ∷ words y) xs) ≡ with_words page (separated words (x ∷ xs))
after_first words page after x xs e =
    ap (λ (p : Written). with_words p (flat_map (λ y. comma ∷ words y) xs)) e
    ∙ sym (ap (with_words page) (separated_is words x xs) ∙ fold-append with_word page (words x) (flat_map (λ y. comma ∷ words y) xs))

-- two sides, with the arrow between
pub both_sides : (page left after : Written) (ls rs : List Word) → left ≡ with_words page ls → after ≡ with_word left arrow → with_words after rs ≡ with_words page (ls ++ arrow ∷ rs)
both_sides page left after ls rs e f =
    ap (λ (p : Written). with_words p rs) (f ∙ ap (λ (p : Written). with_word p arrow) e) ∙ sym (fold-append with_word page ls (arrow ∷ rs))
