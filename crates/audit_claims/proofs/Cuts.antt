-- A text is cut into lines in one way.
use Rattle.std.specs.Prelude.{◌≡◌, ℕ, zero, suc, Bool, true, false, nat_lt, ◌==◌, ◌/◌, ◌%◌, ◌+◌, if◌then◌else◌, List, [], ◌∷◌, ◌++◌, length, codes}
use Rattle.std.proofs.Common.{refl, sym, ap, ◌∙◌, arith}
use Rattle.std.specs.Fmt.{decimal, digit_glyph, digits, digits_onto}
use Rattle.std.specs.List.{AllByRecursion}
use Rattle.std.proofs.lemmas.Bool.{false≢true}
use Rattle.std.proofs.lemmas.Bool.Decides.{nat_tests}
use Rattle.std.proofs.lemmas.List.{append_assoc}
use Rattle.std.proofs.lemmas.List.Elements.{recursion_from_All}
use Rattle.audit_claims.specs.Forms.{HasLines, ended}
use Rattle.def_language.specs.Bytes.{is_line_feed}
use Rattle.lang_reader.specs.Places.{IsOneLine}

abbrev pub Unfed : List ℕ → Type 0
Unfed bs = AllByRecursion (λ b. is_line_feed b ≡ false) bs

pub record IsCut (xs ys us vs : List ℕ) : Type 0 where
  pub line : xs ≡ ys
  pub after : us ≡ vs

pub cut_once : (xs ys us vs : List ℕ) → Unfed xs → Unfed ys → xs ++ 10 ∷ us ≡ ys ++ 10 ∷ vs → IsCut xs ys us vs
cut_once [] [] us vs one other e = record { line = refl; after = cc }
cut_once [] (y ∷ ys) us vs one other e = let is : 10 ≡ y = cc in absurd (false≢true (sym other.0 ∙ ap is_line_feed (sym is)))
cut_once (x ∷ xs) [] us vs one other e = let is : x ≡ 10 = cc in absurd (false≢true (sym one.0 ∙ ap is_line_feed is))
cut_once (x ∷ xs) (y ∷ ys) us vs one other e =
    let head : x ≡ y = cc in
    let rest : xs ++ 10 ∷ us ≡ ys ++ 10 ∷ vs = cc in
    let others = cut_once xs ys us vs one.1 other.1 rest in
    record { line = λ i. head i ∷ others.line i; after = others.after }

-- ---- no line feed in a number

either : (P : ℕ → Type 0) (b : Bool) (x y : ℕ) → P x → P y → P (if b then x else y)
either P true x y one other = one
either P false x y one other = other

either_text : (b : Bool) (xs ys : List ℕ) → Unfed xs → Unfed ys → Unfed (if b then xs else ys)
either_text true xs ys one other = one
either_text false xs ys one other = other

above : (n : ℕ) → is_line_feed (48 + n) ≡ false
above n = grind (arith, nat_tests)

far_above : (n : ℕ) → is_line_feed (87 + n) ≡ false
far_above n = grind (arith, nat_tests)

glyph : (d : ℕ) → is_line_feed (digit_glyph false d) ≡ false
glyph d = either (λ b. is_line_feed b ≡ false) (nat_lt d 10) (48 + d) (87 + d) (above d) (far_above d)

spelled : (k n : ℕ) (rest : List ℕ) → Unfed rest → Unfed (digits_onto k 10 false n rest)
spelled zero n rest none = none
spelled (suc k) n rest none =
    either_text (n / 10 == 0) (digit_glyph false (n % 10) ∷ rest) (digits_onto k 10 false (n / 10) (digit_glyph false (n % 10) ∷ rest)) (glyph (n % 10), none)
    (spelled k (n / 10) (digit_glyph false (n % 10) ∷ rest) (glyph (n % 10), none))

pub digits_unfed : (n : ℕ) → Unfed (decimal n)
unfolding digits
digits_unfed n = spelled 64 n [] tt

pub joined : (xs ys : List ℕ) → Unfed xs → Unfed ys → Unfed (xs ++ ys)
joined [] ys one other = other
joined (x ∷ xs) ys one other = (one.0, joined xs ys one.1 other)

head : (n : ℕ) → Unfed (codes "trace " ++ decimal n)
head n = joined (codes "trace ") (decimal n) (refl, (refl, (refl, (refl, (refl, (refl, tt)))))) (digits_unfed n)

-- ---- the lines of a trace

none_left : (xs ys : List ℕ) → [] ≡ (xs ++ 10 ∷ []) ++ ys → ⊥
none_left [] ys e = let f : ⊥ = cc in f
none_left (x ∷ xs) ys e = let f : ⊥ = cc in f

same_lines : (ls ms : List (List ℕ)) → AllByRecursion IsOneLine ls → AllByRecursion IsOneLine ms → ended ls ≡ ended ms → ls ≡ ms
same_lines [] [] one other e = refl
same_lines [] (m ∷ ms) one other e = absurd (none_left m (ended ms) e)
same_lines (l ∷ ls) [] one other e = absurd (none_left l (ended ls) (sym e))
same_lines (l ∷ ls) (m ∷ ms) one other e =
    let cut = cut_once l m (ended ls) (ended ms) (recursion_from_All (λ b. is_line_feed b ≡ false) l one.0) (recursion_from_All (λ b. is_line_feed b ≡ false) m other.0)
    (sym (append_assoc l (10 ∷ []) (ended ls)) ∙ e ∙ append_assoc m (10 ∷ []) (ended ms)) in
    let rest = same_lines ls ms one.1 other.1 cut.after in
    λ i. cut.line i ∷ rest i

-- A text has one list of lines after its first.
pub one_lines : (text : List ℕ) (ls ms : List (List ℕ)) → HasLines text ls → HasLines text ms → ls ≡ ms
one_lines text ls ms one other =
    let e = append_assoc (codes "trace ") (decimal (length ls)) (10 ∷ ended ls) ∙ sym one.head ∙ other.head ∙ sym (append_assoc (codes "trace ") (decimal (length ms)) (10 ∷ ended ms)) in
    let cut = cut_once (codes "trace " ++ decimal (length ls)) (codes "trace " ++ decimal (length ms)) (ended ls) (ended ms) (head (length ls)) (head (length ms)) e in
    same_lines ls ms one.of.single other.of.single cut.after
