-- The lines of a text, and what stands before and after one of them.
use Rattle.std.specs.Prelude.{◌≡◌, ◌+◌, ◌<◌, ℕ, Bool, true, false, List, [], ◌∷◌, ◌++◌, length, take, drop, if◌then◌else◌}
use Rattle.std.proofs.Common.{refl, sym, ap, ◌∙◌, arith, get_or}
use Rattle.std.specs.List.{AllByRecursion, concat}
use Rattle.std.proofs.lemmas.Bool.Decides.{Decides-eqb}
use Rattle.std.proofs.lemmas.List.{append_assoc, append-nil, take-append-drop, take_all, drop_all, drop_more, drop-drop, take_more}
use Rattle.std.proofs.Math.Seq.{take-add}
use Rattle.std.proofs.lemmas.List.Elements.{recursion_from_All}
use Rattle.memchr.specs.Find.{Nowhere, Passes, is_byte}
use Rattle.def_language.specs.Bytes.{is_line_feed}
use Rattle.lang_reader.proofs.Cut.{before_one, nowhere_one}
use Rattle.audit_claims.specs.Parts.{after_session, bare, before, from, is_end, lines_in, onto_first, session_in}

-- ---- a text whose first line feed is known

lines_cut : (xs ys : List ℕ) → AllByRecursion (λ b. is_line_feed b ≡ false) xs → lines_in (xs ++ 10 ∷ ys) ≡ (xs ++ 10 ∷ []) ∷ lines_in ys
lines_cut [] ys one = refl
lines_cut (x ∷ xs) ys one = rw one.0 (ap (onto_first x) (lines_cut xs ys one.1))

lines_last : (x : ℕ) (xs : List ℕ) → AllByRecursion (λ b. is_line_feed b ≡ false) (x ∷ xs) → lines_in (x ∷ xs) ≡ (x ∷ xs) ∷ []
lines_last x [] one = rw one.0 refl
lines_last x (y ∷ ys) one = rw one.0 (ap (onto_first x) (lines_last y ys one.1))

bare_cut : (xs ys : List ℕ) → AllByRecursion (λ b. is_line_feed b ≡ false) xs → bare (xs ++ 10 ∷ ys) ≡ xs
bare_cut [] ys one = refl
bare_cut (x ∷ xs) ys one = rw one.0 (ap (λ t. x ∷ t) (bare_cut xs ys one.1))

bare_whole : (xs : List ℕ) → AllByRecursion (λ b. is_line_feed b ≡ false) xs → bare xs ≡ xs
bare_whole [] one = refl
bare_whole (x ∷ xs) one = rw one.0 (ap (λ t. x ∷ t) (bare_whole xs one.1))

-- ---- the same by the place of the first line feed

parts : (text : List ℕ) (k : ℕ) → k < length text → Passes (is_byte 10) text k → text ≡ take k text ++ 10 ∷ drop (k + 1) text
parts text k inside feed =
    let is : get_or text k 0 ≡ 10 = (Decides-eqb (get_or text k 0) 10).0 feed in
    sym (take-append-drop k text) ∙ ap (λ rest. take k text ++ rest) (drop_more text k 0 inside ∙ ap (λ b. b ∷ drop (k + 1) text) is)

one_before : (text : List ℕ) (k : ℕ) → k < length text → Nowhere (Passes (is_byte 10) text) 0 k → AllByRecursion (λ b. is_line_feed b ≡ false) (take k text)
one_before text k inside none = recursion_from_All (λ b. is_line_feed b ≡ false) (take k text) (before_one text k inside none)

one_whole : (text : List ℕ) → Nowhere (Passes (is_byte 10) text) 0 (length text) → AllByRecursion (λ b. is_line_feed b ≡ false) text
one_whole text none = recursion_from_All (λ b. is_line_feed b ≡ false) text (nowhere_one text none)

pub line_fed : (text : List ℕ) (k : ℕ) → k < length text → Passes (is_byte 10) text k → Nowhere (Passes (is_byte 10) text) 0 k
    → lines_in text ≡ take (k + 1) text ∷ lines_in (drop (k + 1) text)
line_fed text k inside feed none =
    let is : get_or text k 0 ≡ 10 = (Decides-eqb (get_or text k 0) 10).0 feed in
    let more : take (k + 1) text ≡ take k text ++ 10 ∷ [] = take_more text k 0 inside ∙ ap (λ b. take k text ++ b ∷ []) is in
    ap lines_in (parts text k inside feed) ∙ lines_cut (take k text) (drop (k + 1) text) (one_before text k inside none) ∙ ap (λ l. l ∷ lines_in (drop (k + 1) text)) (sym more)

pub line_unfed : (text : List ℕ) → 0 < length text → Nowhere (Passes (is_byte 10) text) 0 (length text)
    → lines_in text ≡ take (length text) text ∷ lines_in (drop (length text) text)
line_unfed [] some none = absurd (omega arith)
line_unfed (x ∷ xs) some none =
    let a : take (length (x ∷ xs)) (x ∷ xs) ≡ x ∷ xs = take_all (length (x ∷ xs)) (x ∷ xs) (omega arith) in
    let b : drop (length (x ∷ xs)) (x ∷ xs) ≡ [] = drop_all (length (x ∷ xs)) (x ∷ xs) (omega arith) in
    lines_last x xs (one_whole (x ∷ xs) none) ∙ λ i. sym a i ∷ lines_in (sym b i)

pub bare_fed : (text : List ℕ) (k : ℕ) → k < length text → Passes (is_byte 10) text k → Nowhere (Passes (is_byte 10) text) 0 k → take k text ≡ bare text
bare_fed text k inside feed none = sym (ap bare (parts text k inside feed) ∙ bare_cut (take k text) (drop (k + 1) text) (one_before text k inside none))

pub bare_unfed : (text : List ℕ) → Nowhere (Passes (is_byte 10) text) 0 (length text) → text ≡ bare text
bare_unfed text none = sym (bare_whole text (one_whole text none))

-- ---- the lines are the text

pub whole : (text : List ℕ) → concat (lines_in text) ≡ text
whole [] = refl
whole (b ∷ bs) = by (is_line_feed b) (whole bs)
  where
    onto : (lines : List (List ℕ)) → concat (onto_first b lines) ≡ b ∷ concat lines
    onto [] = refl
    onto (l ∷ ls) = refl

    by : (c : Bool) → concat (lines_in bs) ≡ bs → concat (if c then (b ∷ []) ∷ lines_in bs else onto_first b (lines_in bs)) ≡ b ∷ bs
    by true rest = ap (λ t. b ∷ t) rest
    by false rest = onto (lines_in bs) ∙ ap (λ t. b ∷ t) rest

-- ---- a search for the first line that passes a test, at a place

module _ (test : List ℕ → Bool) (text : List ℕ) where
  -- A line that does not pass is one more before.
  pub passed_before : (p n : ℕ) → lines_in (drop p text) ≡ take n (drop p text) ∷ lines_in (drop n (drop p text)) → test (take n (drop p text)) ≡ false
      → concat (before test (lines_in text)) ≡ take p text ++ concat (before test (lines_in (drop p text)))
      → concat (before test (lines_in text)) ≡ take (p + n) text ++ concat (before test (lines_in (drop (p + n) text)))
  passed_before p n next fails so_far =
      let further : drop n (drop p text) ≡ drop (p + n) text = drop-drop n p text in
      let here : before test (lines_in (drop p text)) ≡ take n (drop p text) ∷ before test (lines_in (drop (p + n) text)) =
      ap (before test) next ∙ rw fails (ap (λ t. take n (drop p text) ∷ before test (lines_in t)) further) in
      so_far ∙ ap (λ ls. take p text ++ concat ls) here
      ∙ sym (append_assoc (take p text) (take n (drop p text)) (concat (before test (lines_in (drop (p + n) text)))))
      ∙ ap (λ t. t ++ concat (before test (lines_in (drop (p + n) text)))) (sym (take-add p n text))

  pub passed_from : (p n : ℕ) → lines_in (drop p text) ≡ take n (drop p text) ∷ lines_in (drop n (drop p text)) → test (take n (drop p text)) ≡ false
      → from test (lines_in text) ≡ from test (lines_in (drop p text)) → from test (lines_in text) ≡ from test (lines_in (drop (p + n) text))
  passed_from p n next fails so_far =
      let further : drop n (drop p text) ≡ drop (p + n) text = drop-drop n p text in
      so_far ∙ ap (from test) next ∙ rw fails (ap (λ t. from test (lines_in t)) further)

-- ---- the parts of an input

-- A session ends with the line that is found.
pub session_found : (input : List ℕ) (p n : ℕ) → take p input ≡ concat (before is_end (lines_in input)) → lines_in (drop p input) ≡ from is_end (lines_in input)
    → lines_in (drop p input) ≡ take n (drop p input) ∷ lines_in (drop n (drop p input)) → take (p + n) input ≡ session_in input
session_found input p n ahead rest next =
    let one_line : concat (take 1 (from is_end (lines_in input))) ≡ take n (drop p input) = ap (λ ls. concat (take 1 ls)) (sym rest ∙ next) ∙ append-nil (take n (drop p input)) in
    take-add p n input ∙ λ i. ahead i ++ sym one_line i

pub after_found : (input : List ℕ) (p n : ℕ) → lines_in (drop p input) ≡ from is_end (lines_in input)
    → lines_in (drop p input) ≡ take n (drop p input) ∷ lines_in (drop n (drop p input)) → drop (p + n) input ≡ after_session input
after_found input p n rest next =
    sym (ap (λ ls. concat (drop 1 ls)) (sym rest ∙ next) ∙ whole (drop n (drop p input)) ∙ drop-drop n p input)
