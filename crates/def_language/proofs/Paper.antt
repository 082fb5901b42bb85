-- The lines of what is printed.
use Rattle.std.proofs.Common.{◌≡◌, ℕ, suc, ◌^◌, ◌<◌, Bool, true, false, List, [], ◌∷◌, ◌++◌, refl, ap, ◌∙◌, arith, append_assoc}
use Rattle.std.specs.Prelude.{pos, negsuc, map, not, ◌||◌, ◌==◌, flat_map, if◌then◌else◌}
use Rattle.std.specs.Fmt.{decimal}
use Rattle.std.specs.List.{AllByRecursion, list_all}
use Rattle.std.proofs.lemmas.Bool.{and_parts}
use Rattle.std.proofs.lemmas.Bool.Decides.{nat_tests}
use Rattle.std.proofs.lemmas.Fmt.{digits_decimal}
use Rattle.std.proofs.lemmas.List.Folds.{list_all-append}
use Rattle.def_language.specs.Bytes.{begins_name, continues_name, is_digit, is_line_feed}
use Rattle.def_language.specs.Words.{Word, name, number, null, text, opens, closes, comma, colon, arrow}
use Rattle.def_language.specs.Layout.{written_byte, spelled, is_open, is_tight, gap, laid_out, is_name, IsSpoken}
use Rattle.def_language.specs.Lines.{lines_of}
use Rattle.def_language.proofs.Front.{numerals}

abbrev pub is_within_line : ℕ → Bool
is_within_line b = not (is_line_feed b)

abbrev pub IsLine : List ℕ → Type 0
IsLine bytes = list_all is_within_line bytes ≡ true

both_lines : (xs ys : List ℕ) → IsLine xs → IsLine ys → IsLine (xs ++ ys)
both_lines xs ys e f = list_all-append is_within_line xs ys ∙ rw (e, f) refl

pub weaker : (p q : ℕ → Bool) → ((b : ℕ) → p b ≡ true → q b ≡ true) → (bytes : List ℕ) → list_all p bytes ≡ true → list_all q bytes ≡ true
weaker p q each [] all = refl
weaker p q each (b ∷ bytes) all =
    let parts = and_parts (p b) (list_all p bytes) all in
    rw (each b parts.0, weaker p q each bytes parts.1) refl

name_byte : (b : ℕ) → continues_name b ≡ true → is_within_line b ≡ true
name_byte b e = grind (arith, nat_tests)

digit_byte : (b : ℕ) → is_digit b ≡ true → is_within_line b ≡ true
digit_byte b e = grind (arith, nat_tests)

first_byte : (b : ℕ) → begins_name b ≡ true → is_within_line b ≡ true
first_byte b e = grind (arith, nat_tests)

name_line : (n : List ℕ) → is_name n ≡ true → IsLine n
name_line [] e = refl
name_line (b ∷ n) e =
    let parts = and_parts (begins_name b) (list_all continues_name n) e in
    rw (first_byte b parts.0, weaker continues_name is_within_line name_byte n parts.1) refl

decimal_line : (n : ℕ) → n < 2 ^ 64 → IsLine (decimal n)
decimal_line n lt = weaker is_digit is_within_line digit_byte (decimal n) (digits_decimal numerals n lt)

byte_line : (b : ℕ) → IsLine (written_byte b)
byte_line b = by (b == 34) (b == 92) (b == 10) refl refl refl where
  by : (q s f : Bool) → (b == 34) ≡ q → (b == 92) ≡ s → (b == 10) ≡ f → IsLine (written_byte b)
  by true s f e1 e2 e3 = rw e1 refl
  by false true f e1 e2 e3 = rw (e1, e2) refl
  by false false true e1 e2 e3 = rw (e1, e2, e3) refl
  by false false false e1 e2 e3 = rw (e1, e2, e3) (rw e3 refl)

bytes_line : (t : List ℕ) → IsLine (flat_map written_byte t)
bytes_line [] = refl
bytes_line (b ∷ t) = both_lines (written_byte b) (flat_map written_byte t) (byte_line b) (bytes_line t)

spelled_line : (w : Word) → IsSpoken w → IsLine (spelled w)
spelled_line (name n) e = name_line n e
spelled_line (number (pos n)) e = decimal_line n (omega arith)
spelled_line (number (negsuc n)) e = decimal_line (suc n) (omega arith)
spelled_line (null u k) e = both_lines (decimal u) (46 ∷ decimal k) (decimal_line u (omega (arith, e.0))) (decimal_line k (omega (arith, e.1)))
spelled_line (text t) e = both_lines (flat_map written_byte t) (34 ∷ []) (bytes_line t) refl
spelled_line opens e = refl
spelled_line closes e = refl
spelled_line comma e = refl
spelled_line colon e = refl
spelled_line arrow e = refl

gap_line : (b : Bool) → IsLine (let g : List ℕ = if b then [] else 32 ∷ [] in g)
gap_line true = refl
gap_line false = refl

pub laid_line : (ws : List Word) → AllByRecursion IsSpoken ws → IsLine (laid_out ws)
unfolding laid_out
laid_line [] all = refl
laid_line (w ∷ []) all = spelled_line w all.0
laid_line (w ∷ v ∷ ws) all =
    both_lines (spelled w) (gap w v ++ laid_out (v ∷ ws)) (spelled_line w all.0) (both_lines (gap w v) (laid_out (v ∷ ws)) (gap_line (is_open w || is_tight v)) (laid_line (v ∷ ws) all.1))

no_feed : (b : ℕ) → is_within_line b ≡ true → is_line_feed b ≡ false
no_feed b e = grind (arith, nat_tests)

-- a line and its line feed
pub split_line : (line rest : List ℕ) → IsLine line → lines_of (line ++ 10 ∷ rest) ≡ line ∷ lines_of rest
split_line [] rest all = refl
split_line (b ∷ line) rest all =
    let parts = and_parts (is_within_line b) (list_all is_within_line line) all in
    rw (no_feed b parts.0, split_line line rest parts.1) refl

-- lines, each with its line feed
pub split_lines : {A : Type 0} (line : A → List ℕ) (xs : List A) → AllByRecursion (λ x. IsLine (line x)) xs → lines_of (flat_map (λ x. line x ++ 10 ∷ []) xs) ≡ map line xs ++ [] ∷ []
split_lines line [] all = refl
split_lines line (x ∷ xs) all =
    ap lines_of (append_assoc (line x) (10 ∷ []) (flat_map (λ x. line x ++ 10 ∷ []) xs)) ∙ split_line (line x) (flat_map (λ x. line x ++ 10 ∷ []) xs) all.0
    ∙ ap (λ (ls : List (List ℕ)). line x ∷ ls) (split_lines line xs all.1)
