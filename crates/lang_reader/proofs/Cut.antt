-- A text cut at its first line feed.
use Rattle.std.specs.Prelude.{◌≡◌, ◌<◌, ℕ, List, ◌∷◌, ◌++◌, ◌+◌, length, take, drop}
use Rattle.std.proofs.Common.{sym, ap, ◌∙◌, arith, get_or}
use Rattle.std.proofs.lemmas.Bool.{false_from_ne_true}
use Rattle.std.proofs.lemmas.Grind.{get_or_default_zero}
use Rattle.std.proofs.lemmas.List.{drop_more, get_or-take, length-take-le, take-append-drop}
use Rattle.std.proofs.lemmas.List.Splits.{slice_split_at}
use Rattle.memchr.specs.Find.{Nowhere, Passes, is_byte}
use Rattle.def_language.specs.Bytes.{is_line_feed}
use Rattle.def_language.specs.Lines.{lines_of}
use Rattle.lang_reader.specs.Places.{IsOneLine}

-- where no line feed is found there is none
pub nowhere_one : (text : List ℕ) → Nowhere (Passes (is_byte 10) text) 0 (length text) → IsOneLine text
nowhere_one text none k d inside = false_from_ne_true _ (λ feed. none k (omega arith) inside (ap is_line_feed (sym (get_or_default_zero text k d inside)) ∙ feed))

-- none stands before the first
pub before_one : (text : List ℕ) (k : ℕ) → k < length text → Nowhere (Passes (is_byte 10) text) 0 k → IsOneLine (take k text)
before_one text k inside none i d before =
    let size : length (take k text) ≡ k = length-take-le k text (omega (arith, inside)) in
    let same : get_or (take k text) i d ≡ get_or text i 0 = get_or-take k text i d (omega (arith, size, before)) ∙ get_or_default_zero text i d (omega (arith, size, before, inside)) in
    false_from_ne_true _ (λ feed. none i (omega arith) (omega (arith, size, before)) (ap is_line_feed (sym same) ∙ feed))

-- the text is a line, a line feed and the rest
pub cut_at : (text : List ℕ) (k : ℕ) → k < length text → Passes (is_byte 10) text k → IsOneLine (take k text) → lines_of text ≡ take k text ∷ lines_of (drop (k + 1) text)
cut_at text k inside feed one =
    let parts : text ≡ take k text ++ get_or text k 0 ∷ drop (k + 1) text =
    sym (take-append-drop k text) ∙ ap (λ rest. take k text ++ rest) (drop_more text k 0 inside) in
    ap lines_of parts ∙ slice_split_at is_line_feed (take k text) (get_or text k 0) (drop (k + 1) text) one feed
