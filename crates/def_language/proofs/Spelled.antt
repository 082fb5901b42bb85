-- What is read as a token is spelled as its kind says.
use Rattle.std.proofs.Common.{◌≡◌, ◌∙◌, ℕ, suc, ◌+◌, ◌-◌, ◌≤◌, Bool, true, false, List, [], ◌∷◌, ◌++◌, take, drop, length, refl, sym, ap, subst, arith}
use Rattle.std.specs.Prelude.{Option, Some, None, Result, Ok, Err, IfOk, ◌==◌, nat_lt, nat_le}
use Rattle.std.specs.List.{list_all, prefix_len}
use Rattle.std.proofs.lemmas.Bool.{eqb-true}
use Rattle.std.proofs.lemmas.Bool.Decides.{nat_tests}
use Rattle.std.proofs.lemmas.List.{drop-drop, length-take-le, take-append-drop}
use Rattle.std.proofs.lemmas.List.Folds.{length-prefix_len}
use Rattle.std.proofs.Math.Seq.{take-append_seam, drop-append_seam, take-append-add}
use Rattle.def_language.specs.declared.tokens.TokenKind.{TokenKind}
use Rattle.def_language.specs.declared.tokens.TokenKind.TheVariants.{Name, Number, Null, Text}
use Rattle.def_language.specs.declared.tokens.LexRefusal.{LexRefusal}
use Rattle.def_language.specs.LexAnswers.{◌>>=◌}
use Rattle.def_language.specs.Bytes.{begins_name, continues_name, is_digit, run, digits_of}
use Rattle.def_language.specs.Numbers.{is_wide, is_wide_part}
use Rattle.def_language.specs.QuotedTexts.{escaped, says, says_escaped, text_from, text_at, closed}
use Rattle.def_language.specs.Tokens.{number_at, minus_at, point_at, null_at, sign, sign_at, token_at}
use Rattle.def_language.specs.Spelling.{are_digits, spells}

-- the token that is read, if one is, is spelled by the bytes that it takes
abbrev pub Spelled : List ℕ → Result (TokenKind × ℕ) LexRefusal → Type 0
Spelled bytes read = IfOk read (λ x. spells x.0 (take x.1 bytes) ≡ true)

one_more : (p : ℕ → Bool) (x : ℕ) (xs : List ℕ) → p x ≡ true → prefix_len p (x ∷ xs) ≡ suc (prefix_len p xs)
one_more p x xs e = rw e (omega arith)

pub run_all : (p : ℕ → Bool) (xs : List ℕ) → list_all p (take (prefix_len p xs) xs) ≡ true
run_all p [] = refl
run_all p (x ∷ xs) = by (run_all p xs) (p x) refl where
  by : list_all p (take (prefix_len p xs) xs) ≡ true → (passes : Bool) → p x ≡ passes → list_all p (take (prefix_len p (x ∷ xs)) (x ∷ xs)) ≡ true
  by others true e = ap (λ n. list_all p (take n (x ∷ xs))) (one_more p x xs e) ∙ rw (e, others) refl
  by others false e =
      let none : prefix_len p (x ∷ xs) ≡ 0 = rw e refl in
      ap (λ n. list_all p (take n (x ∷ xs))) none

-- as many as pass, where the next one does not
pub run_whole : (p : ℕ → Bool) (xs : List ℕ) (y : ℕ) (ys : List ℕ) → list_all p xs ≡ true → p y ≡ false → prefix_len p (xs ++ y ∷ ys) ≡ length xs
run_whole p [] y ys all stops = rw stops refl
run_whole p (x ∷ xs) y ys all stops = by (λ rest. run_whole p xs y ys rest stops) (p x) refl where
  by : (list_all p xs ≡ true → prefix_len p (xs ++ y ∷ ys) ≡ length xs) → (passes : Bool) → p x ≡ passes → prefix_len p ((x ∷ xs) ++ y ∷ ys) ≡ length (x ∷ xs)
  by others true e =
      let rest : list_all p xs ≡ true = rw e at all in
      one_more p x (xs ++ y ∷ ys) e ∙ (let whole : prefix_len p (xs ++ y ∷ ys) ≡ length xs = others rest in omega arith)
  by others false e = let bad : false ≡ true = rw e at all in absurd (let f : ⊥ = cc in f)

pub take_more : (n b : ℕ) (xs : List ℕ) → take (1 + n) (b ∷ xs) ≡ b ∷ take n xs
take_more n b xs = let e : 1 + n ≡ suc n = omega arith in ap (λ k. take k (b ∷ xs)) e

take_none : (n : ℕ) (xs : List ℕ) → take (0 + n) xs ≡ take n xs
take_none n xs = let e : 0 + n ≡ n = omega arith in ap (λ k. take k xs) e

not_empty : (b : ℕ) (xs : List ℕ) → (length (b ∷ xs) == 0) ≡ false
not_empty b xs = grind (arith, nat_tests)

name_spelled : (b : ℕ) (rest : List ℕ) → begins_name b ≡ true → spells Name (take (1 + run continues_name rest) (b ∷ rest)) ≡ true
name_spelled b rest first = ap (spells Name) (take_more (run continues_name rest) b rest) ∙ rw (first, run_all continues_name rest) refl

digits_spell : (b : ℕ) (ds : List ℕ) → is_digit b ≡ true → list_all is_digit ds ≡ true → is_wide false (b ∷ ds) ≡ false → spells Number (b ∷ ds) ≡ true
digits_spell b ds digit all narrow =
    let plain : (b == 45) ≡ false = grind (arith, nat_tests) in
    rw (plain, not_empty b ds, digit, all, narrow) refl

plain_spelled : (place b : ℕ) (rest : List ℕ) → is_digit b ≡ true → Spelled (b ∷ rest) (number_at place false 0 (b ∷ rest))
unfolding number_at
plain_spelled place b rest digit = by (run is_digit (b ∷ rest) == 0) (is_wide false (digits_of (b ∷ rest))) refl refl where
  by : (none wide : Bool) → (run is_digit (b ∷ rest) == 0) ≡ none → is_wide false (digits_of (b ∷ rest)) ≡ wide → Spelled (b ∷ rest) (number_at place false 0 (b ∷ rest))
  by true wide e f = rw e tt
  by false true e f = rw (e, f) tt
  by false false e f =
      let whole : digits_of (b ∷ rest) ≡ b ∷ digits_of rest = ap (λ n. take n (b ∷ rest)) (one_more is_digit b rest digit) in
      let narrow : is_wide false (b ∷ digits_of rest) ≡ false = sym (ap (is_wide false) whole) ∙ f in
      rw (e, f) (ap (spells Number) (take_none (run is_digit (b ∷ rest)) (b ∷ rest) ∙ whole) ∙ digits_spell b (digits_of rest) digit (run_all is_digit rest) narrow)

pub digits_are : (digits : List ℕ) → (run is_digit digits == 0) ≡ false → are_digits (digits_of digits) ≡ true
digits_are digits some =
    let size : (length (digits_of digits) == 0) ≡ false = ap (λ (n : ℕ). n == 0) (length-prefix_len is_digit digits) ∙ some in
    rw (size, run_all is_digit digits) refl

signed_spelled : (place : ℕ) (digits : List ℕ) → Spelled (45 ∷ digits) (number_at place true 1 digits)
unfolding number_at
signed_spelled place digits = by (run is_digit digits == 0) (is_wide true (digits_of digits)) refl refl where
  by : (none wide : Bool) → (run is_digit digits == 0) ≡ none → is_wide true (digits_of digits) ≡ wide → Spelled (45 ∷ digits) (number_at place true 1 digits)
  by true wide e f = rw e tt
  by false true e f = rw (e, f) tt
  by false false e f = rw (e, f) (ap (spells Number) (take_more (run is_digit digits) 45 digits) ∙ rw (digits_are digits e, f) refl)

minus_spelled : (place : ℕ) (rest : List ℕ) → Spelled (45 ∷ rest) (minus_at place rest)
unfolding minus_at
minus_spelled place [] = tt
minus_spelled place (c ∷ rest) = by (c == 62) refl where
  by : (arrow : Bool) → (c == 62) ≡ arrow → Spelled (45 ∷ c ∷ rest) (minus_at place (c ∷ rest))
  by true e = rw e (rw e refl)
  by false e = rw e (signed_spelled place (c ∷ rest))

parts_spell : (u k : List ℕ) (c : ℕ) → are_digits u ≡ true → is_wide_part u ≡ false → list_all is_digit u ≡ true → c ≡ 46 → are_digits k ≡ true → is_wide_part k ≡ false
    → spells Null (63 ∷ (u ++ c ∷ k)) ≡ true
parts_spell u k c some narrow all point others narrow' =
    let stops : is_digit c ≡ false = ap is_digit point in
    let first : run is_digit (u ++ c ∷ k) ≡ length u = run_whole is_digit u c k all stops in
    let at_point : drop (run is_digit (u ++ c ∷ k)) (u ++ c ∷ k) ≡ c ∷ k = ap (λ n. drop n (u ++ c ∷ k)) first ∙ drop-append_seam u (c ∷ k) in
    let update : take (run is_digit (u ++ c ∷ k)) (u ++ c ∷ k) ≡ u = ap (λ n. take n (u ++ c ∷ k)) first ∙ take-append_seam u (c ∷ k) in
    let place : drop (run is_digit (u ++ c ∷ k) + 1) (u ++ c ∷ k) ≡ k = sym (drop-drop 1 (run is_digit (u ++ c ∷ k)) (u ++ c ∷ k)) ∙ ap (drop 1) at_point in
    let is_point : (c == 46) ≡ true = ap (λ (n : ℕ). n == 46) point in
    rw (update, some, narrow, at_point, is_point, place, others, narrow') refl

point_spelled : (place : ℕ) (u t : List ℕ) → are_digits u ≡ true → list_all is_digit u ≡ true → Spelled (63 ∷ (u ++ t)) (point_at place u t)
unfolding point_at
point_spelled place u [] some all = tt
point_spelled place u (c ∷ rest) some all = by (c == 46) (run is_digit rest == 0) (is_wide_part u) (is_wide_part (digits_of rest)) refl refl refl refl where
  taken : take (length u + 2 + run is_digit rest) (63 ∷ (u ++ c ∷ rest)) ≡ 63 ∷ (u ++ c ∷ digits_of rest)
  taken =
      let n : length u + 2 + run is_digit rest ≡ suc (length u + suc (run is_digit rest)) = omega arith in
      ap (λ k. take k (63 ∷ (u ++ c ∷ rest))) n ∙ ap (λ (l : List ℕ). 63 ∷ l) (take-append-add u (c ∷ rest) (suc (run is_digit rest)))

  by : (point none wide wide' : Bool) → (c == 46) ≡ point → (run is_digit rest == 0) ≡ none → is_wide_part u ≡ wide → is_wide_part (digits_of rest) ≡ wide'
      → Spelled (63 ∷ (u ++ c ∷ rest)) (point_at place u (c ∷ rest))
  by false none wide wide' e f g h = rw e tt
  by true true wide wide' e f g h = rw (e, f) tt
  by true false true wide' e f g h = rw (e, f, g) tt
  by true false false true e f g h = rw (e, f, g, h) tt
  by true false false false e f g h = rw (e, f, g, h) (ap (spells Null) taken ∙ parts_spell u (digits_of rest) c some g all (eqb-true c 46 e) (digits_are rest f) h)

null_spelled : (place : ℕ) (rest : List ℕ) → Spelled (63 ∷ rest) (null_at place rest)
unfolding null_at
null_spelled place rest = by (run is_digit rest == 0) refl where
  by : (none : Bool) → (run is_digit rest == 0) ≡ none → Spelled (63 ∷ rest) (null_at place rest)
  by true e = rw e tt
  by false e =
      let whole : digits_of rest ++ drop (run is_digit rest) rest ≡ rest = take-append-drop (run is_digit rest) rest in
      rw e (subst (λ (l : List ℕ). Spelled (63 ∷ l) (point_at place (digits_of rest) (drop (run is_digit rest) rest))) whole
      (point_spelled place (digits_of rest) (drop (run is_digit rest) rest) (digits_are rest e) (run_all is_digit rest)))

-- a text is read in the same way from any bytes that begin with those that it takes
abbrev pub Kept : ℕ → ℕ → List ℕ → Result (List ℕ × ℕ) LexRefusal → Type 0
Kept opened place bytes read = IfOk read (λ x. ((m : ℕ) → x.1 ≤ m → text_from opened place (take m bytes) ≡ Ok x) × (x.1 ≤ length bytes))

closing : (opened place b : ℕ) (rest : List ℕ) → (b == 34) ≡ true → text_from opened place (b ∷ rest) ≡ Ok ([], 1)
unfolding text_from
closing opened place b [] e = rw e refl
closing opened place b (c ∷ rest) e = rw e refl

plain : (opened place b : ℕ) (rest : List ℕ) → (b == 34) ≡ false → (b == 92) ≡ false → text_from opened place (b ∷ rest) ≡ says b 1 (text_from opened (place + 1) rest)
unfolding text_from
plain opened place b [] e f = rw e refl
plain opened place b (c ∷ rest) e f = rw (e, f) refl

take_first : (m b : ℕ) (xs : List ℕ) → 1 ≤ m → take m (b ∷ xs) ≡ b ∷ take (m - 1) xs
take_first m b xs some = let e : m ≡ suc (m - 1) = omega arith in ap (λ k. take k (b ∷ xs)) e

take_second : (m b c : ℕ) (xs : List ℕ) → 2 ≤ m → take m (b ∷ c ∷ xs) ≡ b ∷ c ∷ take (m - 2) xs
take_second m b c xs some = let e : m ≡ suc (suc (m - 2)) = omega arith in ap (λ k. take k (b ∷ c ∷ xs)) e

kept_quote : (o p b : ℕ) (rest : List ℕ) → (b == 34) ≡ true → Kept o p (b ∷ rest) (Ok ([], 1))
kept_quote o p b rest e = (λ m some. ap (text_from o p) (take_first m b rest some) ∙ closing o p b (take (m - 1) rest) e, omega arith)

kept_plain : (o p b : ℕ) (rest : List ℕ) (read : Result (List ℕ × ℕ) LexRefusal) → (b == 34) ≡ false → (b == 92) ≡ false → Kept o (p + 1) rest read → Kept o p (b ∷ rest) (says b 1 read)
kept_plain o p b rest (Err refusal) e f alone = tt
kept_plain o p b rest (Ok x) e f alone =
    (λ m some. ap (text_from o p) (take_first m b rest (omega arith)) ∙ plain o p b (take (m - 1) rest) e f ∙ ap (says b 1) (alone.0 (m - 1) (omega arith)), omega (arith, alone.1))

kept_escaped : (o p b c : ℕ) (rest : List ℕ) (said : Option ℕ) (place : ℕ) (read : Result (List ℕ × ℕ) LexRefusal) → (b == 34) ≡ false → (b == 92) ≡ true → escaped c ≡ said
    → Kept o (p + 2) rest read → Kept o p (b ∷ c ∷ rest) (says_escaped place said read)
unfolding text_from
kept_escaped o p b c rest None place read e f g alone = tt
kept_escaped o p b c rest (Some d) place (Err refusal) e f g alone = tt
kept_escaped o p b c rest (Some d) place (Ok x) e f g alone = (λ m some. long m some, omega (arith, alone.1)) where
  reads : (xs : List ℕ) → text_from o p (b ∷ c ∷ xs) ≡ says d 2 (text_from o (p + 2) xs)
  reads xs = rw (e, f, g) refl

  long : (m : ℕ) → 2 + x.1 ≤ m → text_from o p (take m (b ∷ c ∷ rest)) ≡ says d 2 (Ok x)
  long m some = ap (text_from o p) (take_second m b c rest (omega arith)) ∙ reads (take (m - 2) rest) ∙ ap (says d 2) (alone.0 (m - 2) (omega arith))

pub kept : (o p o' p' : ℕ) (bytes : List ℕ) → Kept o' p' bytes (text_from o p bytes)
unfolding text_from
kept o p o' p' [] = tt
kept o p o' p' (b ∷ []) = by (b == 34) refl where
  by : (quote : Bool) → (b == 34) ≡ quote → Kept o' p' (b ∷ []) (text_from o p (b ∷ []))
  by true e = rw e (kept_quote o' p' b [] e)
  by false e = rw e tt
kept o p o' p' (b ∷ c ∷ rest) = by (kept o (p + 2) o' (p' + 2) rest) (kept o (p + 1) o' (p' + 1) (c ∷ rest)) (b == 34) (b == 92) refl refl where
  by : Kept o' (p' + 2) rest (text_from o (p + 2) rest) → Kept o' (p' + 1) (c ∷ rest) (text_from o (p + 1) (c ∷ rest))
      → (quote backslash : Bool) → (b == 34) ≡ quote → (b == 92) ≡ backslash → Kept o' p' (b ∷ c ∷ rest) (text_from o p (b ∷ c ∷ rest))
  by two one true backslash e f = rw e (kept_quote o' p' b (c ∷ rest) e)
  by two one false true e f = rw (e, f) (kept_escaped o' p' b c rest (escaped c) p (text_from o (p + 2) rest) e f refl two)
  by two one false false e f = rw (e, f) (kept_plain o' p' b (c ∷ rest) (text_from o (p + 1) (c ∷ rest)) e f one)

equals_itself : (n : ℕ) → (n == n) ≡ true
equals_itself n = grind (arith, nat_tests)

closed_spelled : (opened : ℕ) (rest : List ℕ) (read : Result (List ℕ × ℕ) LexRefusal) → Kept 0 1 rest read → Spelled (34 ∷ rest) (read >>= (λ x. closed opened (length x.0) x.1))
closed_spelled opened rest (Err refusal) alone = tt
closed_spelled opened rest (Ok x) alone = by (nat_lt 256 (length x.0)) refl where
  by : (long : Bool) → nat_lt 256 (length x.0) ≡ long → Spelled (34 ∷ rest) (closed opened (length x.0) x.1)
  by true e = rw e tt
  by false e =
      let short : nat_le (length x.0) 256 ≡ true = grind (arith, nat_tests) in
      let size : length (take x.1 rest) ≡ x.1 = length-take-le x.1 rest alone.1 in
      let whole : (x.1 == length (take x.1 rest)) ≡ true = ap (λ (n : ℕ). x.1 == n) size ∙ equals_itself x.1 in
      rw e (ap (spells Text) (take_more x.1 34 rest) ∙ rw (alone.0 x.1 (omega arith), short, whole) refl)

sign_spelled : (place b : ℕ) (rest : List ℕ) → Spelled (b ∷ rest) (sign_at place (sign b))
sign_spelled place b rest = by (b == 40) (b == 41) (b == 44) (b == 58) refl refl refl refl where
  by : (p q r s : Bool) → (b == 40) ≡ p → (b == 41) ≡ q → (b == 44) ≡ r → (b == 58) ≡ s → Spelled (b ∷ rest) (sign_at place (sign b))
  by true q r s e f g h = rw e (rw e refl)
  by false true r s e f g h = rw (e, f) (rw f refl)
  by false false true s e f g h = rw (e, f, g) (rw g refl)
  by false false false true e f g h = rw (e, f, g, h) (rw h refl)
  by false false false false e f g h = rw (e, f, g, h) tt

-- the token at the front is spelled by the bytes that it takes
pub token_spelled : (place : ℕ) (bytes : List ℕ) → Spelled bytes (token_at place bytes)
unfolding token_at
token_spelled place [] = tt
token_spelled place (b ∷ rest) = by (begins_name b) (is_digit b) (b == 45) (b == 63) (b == 34) refl refl refl refl refl where
  by : (name digit minus mark quote : Bool) → begins_name b ≡ name → is_digit b ≡ digit → (b == 45) ≡ minus → (b == 63) ≡ mark → (b == 34) ≡ quote
      → Spelled (b ∷ rest) (token_at place (b ∷ rest))
  by true digit minus mark quote e f g h i = rw e (name_spelled b rest e)
  by false true minus mark quote e f g h i = rw (e, f) (plain_spelled place b rest f)
  by false false true mark quote e f g h i = rw (e, f, g) (subst (λ n. Spelled (n ∷ rest) (minus_at place rest)) (sym (eqb-true b 45 g)) (minus_spelled place rest))
  by false false false true quote e f g h i = rw (e, f, g, h) (subst (λ n. Spelled (n ∷ rest) (null_at place rest)) (sym (eqb-true b 63 h)) (null_spelled place rest))
  by false false false false true e f g h i = rw (e, f, g, h, i) (subst (λ n. Spelled (n ∷ rest) (text_at place rest)) (sym (eqb-true b 34 i)) (closed_spelled place rest (text_from place (place + 1) rest) (kept place (place + 1) 0 1 rest)))
  by false false false false false e f g h i = rw (e, f, g, h, i) (sign_spelled place b rest)
